-- What a script is shown: 000 Definition 35 (Clean) and Algorithm 7, lines 2 to 9; as one term. Identities and secrets are outside (01).
use Rattle.std.specs.Prelude.{Bool, true, false, cond, not, ◌&&◌, List, ℕ, zero, suc}
use Rattle.std.specs.Prelude.{Option, None as none, Some as some}
use Rattle.csexp.specs.Text.{text}
use Rattle.csexp.specs.Term.{Term, atom, list, Terms, nil, cons}
use Rattle.csexp.specs.Encode.{number_term, optional_term, each, labelled}
use Rattle.sorted.specs.Table.{keep, at}
use Rattle.tables.specs.Tables.{windows, documents, cookies, local_storage, session_storage, inputs, is_secure, key_of, cmp, Tables}
use Rattle.tables.specs.Rows.{same_document, origin_of, same_origin, same_host, goes_over}
use Rattle.shapes.specs.Events.{url_term, name_term, origin_term}
use Rattle.wim.specs.Nouns.{WindowNumber, DocumentNumber, Origin, Matching, Unmatched, By, Referrer, Unknown, Known, Body, Number, Page, Parent, Top, Under, Opener, Nobody, OpenedBy, Window, Document, HostCookie, LocalValue, SessionValue, Input, News, Answered, Posted, Refusal, Lacking, NoWindow, NoDocument, Closed}
use Rattle.wim.specs.Walks.{active_document, steps, reached_from}
use Rattle.wim.specs.Step.{Browser}

-- VALUES. An absent value is ().
abbrev pub opener_term : Opener → Term
opener_term Nobody = list nil
opener_term (OpenedBy w) = labelled (text "window") w.0

abbrev pub referrer_term : Referrer → Term
referrer_term Unknown = list nil
referrer_term (Known u) = url_term u

abbrev pub matching_term : Matching → Term
matching_term Unmatched = list nil
matching_term (By n) = number_term n

abbrev pub body_term : Body → Term
body_term (Number n) = number_term n
body_term (Page script state) = list (cons (number_term script.0) (cons (number_term state.0) nil))

-- A8:49 and A7:86: (14:XMLHTTPREQUEST body matching), (11:POSTMESSAGE window origin message)
abbrev pub news_term : News → Term
news_term (Answered m b) = list (cons (atom (text "XMLHTTPREQUEST")) (cons (body_term b) (cons (matching_term m) nil)))
news_term (Posted w o m) = list (cons (atom (text "POSTMESSAGE")) (cons (labelled (text "window") w.0) (cons (origin_term o) (cons (number_term m) nil))))

abbrev pub inputs_term : Tables → DocumentNumber → Term
inputs_term b n = list (each (λ (i : Input). news_term i.news) (keep (λ (i : Input). same_document i.document n) (b inputs)))

-- THE TREE. "all inactive documents removed", "non-same-origin documents w.r.t. d replaced by a limited document d' with the same nonce
-- and the same subwindow list", "headers for all documents set to ⟨⟩".
-- (document location () referrer script scriptstate inputs subwindows 1:T), or (document subwindows)
abbrev pub whole_document : Tables → Document → Terms → Term
whole_document b d below =
    list
    (cons (labelled (text "document") d.number.0)
    (cons (url_term d.location)
    (cons (list nil)
    (cons (referrer_term d.referrer)
    (cons (number_term d.script.0)
    (cons (number_term d.state.0)
    (cons (inputs_term b d.number)
    (cons (list below)
    (cons (atom (text "T")) nil)))))))))

abbrev pub limited_document : Document → Terms → Term
limited_document d below = list (cons (labelled (text "document") d.number.0) (cons (list below) nil))

abbrev pub document_term : Tables → Origin → Document → Terms → Term
document_term b o d below = cond (same_origin (origin_of d) o) (whole_document b d below) (limited_document d below)

-- (window (document) opener); a window without a document has an empty list there
abbrev pub window_term : Window → Terms → Term
window_term r shown = list (cons (labelled (text "window") r.number.0) (cons (list shown) (cons (opener_term r.opener) nil)))

abbrev pub is_under_document : DocumentNumber → Parent → Bool
is_under_document n Top = false
is_under_document n (Under m) = same_document m n

abbrev pub is_top_window : Parent → Bool
is_top_window Top = true
is_top_window (Under m) = false

-- the windows of these rows with what stands in them, at most so many levels deep
unfoldable pub tree : ℕ → Tables → Origin → List Window → Terms
tree zero b o rs = nil
tree (suc n) b o rs =
    each (λ (r : Window). window_term r
    (elim (active_document (b documents) r.number) as (λ _. Terms) [
      | none ↦ nil
      | some d ↦ cons (document_term b o d (tree n b o (keep (λ (c : Window). is_under_document d.number c.parent) (b windows)))) nil
    ])) rs

-- COOKIES AND STORAGE. A7:3: not httpOnly, secure ones only for S; A7:5, 6: the origin's, the session's by the top-level window too.
abbrev pub cookie_term : HostCookie → Term
cookie_term r = list (cons (name_term r.cookie.name) (cons (number_term r.cookie.value.0) nil))

abbrev pub cookies_term : Tables → Origin → Term
cookies_term b o = list (each cookie_term (keep (λ (r : HostCookie). same_host r.host o.host && (not r.cookie.httponly && goes_over o.protocol r.cookie)) (b cookies)))

abbrev pub local_term : Option LocalValue → Term
local_term none = list nil
local_term (some r) = optional_term r.value.0

abbrev pub session_term : Option SessionValue → Term
session_term none = list nil
session_term (some r) = optional_term r.value.0

-- A7:9: (tree document scriptstate scriptinputs cookies localStorage sessionStorage)
unfoldable pub shown_to : Tables → WindowNumber → Document → Term
shown_to b top d =
    let o = origin_of d in
    list
    (cons (list (tree steps b o (keep (λ (r : Window). is_top_window r.parent) (b windows))))
    (cons (labelled (text "document") d.number.0)
    (cons (number_term d.state.0)
    (cons (inputs_term b d.number)
    (cons (cookies_term b o)
    (cons (local_term (at (key_of local_storage) (cmp local_storage) (o.host.0, is_secure o.protocol) (b local_storage)))
    (cons (session_term (at (key_of session_storage) (cmp session_storage) (o.host.0, (is_secure o.protocol, top.0)) (b session_storage))) nil)))))))

-- REFUSALS as for a step of the script: 8, then 3.
pub data Shown : Type 0 where
  hidden : Refusal → Shown
  shown : Term → Shown

abbrev pub shown_document : Tables → WindowNumber → Option Document → Shown
shown_document b top none = hidden (Lacking NoDocument)
shown_document b top (some d) = shown (shown_to b top d)

abbrev pub shown_window : Tables → WindowNumber → Option WindowNumber → Shown
shown_window b w none = hidden (Lacking NoWindow)
shown_window b w (some top) = shown_document b top (active_document (b documents) w)

unfoldable pub what_is_shown : Browser → WindowNumber → Shown
what_is_shown b w = cond b.closed (hidden Closed) (shown_window b.tables w (reached_from steps (b.tables windows) (b.tables documents) w))

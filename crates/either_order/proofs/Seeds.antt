-- What a part must hold for a local step to keep to it: what the step stands by, its hosts, the waiting entry that it answers.
use mathlib.Core.Path.{◌≡◌, sym, ◌∙◌, ap}
use mathlib.Core.Logic.{inl}
use mathlib.Core.Bool.{Bool, true, ◌||◌}
use mathlib.Core.List.{List, [], ◌∷◌, map}
use Rattle.std.specs.Prelude.{Option, None as none, Some as some}
use Rattle.sorted.specs.Table.{keep, In}
use Rattle.sorted.proofs.Never.{never}
use Rattle.sorted.proofs.Member.{in_keep, find_in}
use Rattle.sorted.proofs.Revise.{in_map}
use Rattle.tables.specs.Tables.{windows, documents, Tables}
use Rattle.tables.specs.Labels.{Label, window, request, dns, key, document, host}
use Rattle.tables.specs.Rows.{one_of, window_one_of}
use Rattle.wim.specs.Nouns.{WindowNumber, DocumentNumber, Host, Event, RunScript, Urlbar, Reload, GoForward, GoBack, CloseCorrupt, EncryptedAnswer, PlainAnswer, DnsResolved, Window, Document, Question, Waiting}
use Rattle.wim.specs.Walks.{documents_of, active_document, steps, is_under, removal}
use Rattle.wim.specs.Program.{reached, active, history, under, question, keyless, keyed, observed}
use Rattle.wim.specs.LocalSteps.{top_of, home, hosts, document_host}
use Rattle.wim.proofs.Walks.{reached-top}
use Rattle.invariant.proofs.Rooted.Gone.{in_history}
use Rattle.invariant.proofs.Rooted.Tests.{one_in, window_in}
use Rattle.invariant.proofs.Rooted.Removed.{numbers}
use Rattle.either_order.proofs.Sight.{Even, document_even, under-part, document-part}
use Rattle.either_order.proofs.Part.{Part, sees, level_even, Whole}
use Rattle.either_order.proofs.Colour.{top_of_label}
use Rattle.either_order.proofs.Shared.{Removable}

-- the number under which a waiting entry is sought
abbrev pub sought : Event → List Label
sought (RunScript w out) = []
sought (Urlbar target url) = []
sought (Reload w) = []
sought (GoForward w) = []
sought (GoBack w) = []
sought CloseCorrupt = []
sought (EncryptedAnswer k a) = (key, k.0) ∷ []
sought (PlainAnswer a) = (request, a.number.0) ∷ []
sought (DnsResolved a) = (dns, a.number.0) ∷ []

abbrev pub waiting_number : Option Waiting → List Label
waiting_number none = []
waiting_number (some w) = (request, w.request.number.0) ∷ []

abbrev pub question_number : Option Question → List Label
question_number none = []
question_number (some q) = (dns, q.number.0) ∷ []

-- the number of the entry that is found
abbrev pub found : Event → Tables → List Label
found (RunScript w out) b = []
found (Urlbar target url) b = []
found (Reload w) b = []
found (GoForward w) b = []
found (GoBack w) b = []
found CloseCorrupt b = []
found (EncryptedAnswer k a) b = waiting_number (observed (keyed k) b)
found (PlainAnswer a) b = waiting_number (observed (keyless a.number) b)
found (DnsResolved a) b = question_number (observed (question a.number) b)

pub record Seeds (F : Part) (e : Event) (b : Tables) : Type 0 where
  pub home_sees : (l : Label) → home e b ≡ some l → sees F l ≡ true
  pub home-own : (l : Label) (t : WindowNumber) → home e b ≡ some l → top_of_label b l ≡ some t → F.own l ≡ true
  pub hosts-own : (h : Host) → In h (hosts e b) → F.own (host, h.0) ≡ true
  pub sought_sees : (l : Label) → In l (sought e) → sees F l ≡ true
  pub found-own : (l : Label) → In l (found e b) → F.own l ≡ true

-- the host of the active document
pub active-host : (d : Document) (o : Option Document) → o ≡ some d → In d.location.host (document_host o)
active-host d none e = never (cc)
active-host d (some x) e = let z : x ≡ d = cc in inl (ap (λ (y : Document). y.location.host) (sym z))

module _ (F : Part) (b : Tables) (W : Whole F b) where
  even : Even F.own b
  even = level_even F.own b W.owns

  -- a window that the step stands by and that is reached is owned
  pub reached-own : (e : Event) → Seeds F e b → (w top : WindowNumber) → home e b ≡ some (window, w.0) → observed (reached w) b ≡ some top → F.own (window, w.0) ≡ true
  unfolding observed top_of
  reached-own e S w top h r = S.home-own (window, w.0) top h (reached-top (b windows) (b documents) steps w top r)

  -- the documents of an owned window are owned
  pub history-own : (w : WindowNumber) → F.own (window, w.0) ≡ true → (d : Document) → In d (observed (history w) b) → F.own (document, d.number.0) ≡ true
  unfolding observed
  history-own w o d i =
      let z = in_history (b documents) w d i in
      document_even F.own b (level_even F.own b W.owns) d z.0 ∙ (ap (λ (v : WindowNumber). F.own (window, v.0)) z.1 ∙ o)

  pub active-own : (w : WindowNumber) → F.own (window, w.0) ≡ true → (d : Document) → observed (active w) b ≡ some d → F.own (document, d.number.0) ≡ true
  unfolding observed active_document
  active-own w o d e = history-own w o d (find_in (λ (d : Document). d.active) (documents_of (b documents) w) d e).0

  -- some of the documents of an owned window
  pub some-own : (w : WindowNumber) (l : List Document) → F.own (window, w.0) ≡ true → ((d : Document) → In d l → In d (observed (history w) b))
      → (n : DocumentNumber) → one_of n (map (λ (d : Document). d.number) l) ≡ true → F.own (document, n.0) ≡ true
  some-own w l o h n e = let z = in_map (λ (d : Document). d.number) l n (one_in n (numbers l) e) in ap (λ (k : DocumentNumber). F.own (document, k.0)) z.2 ∙ history-own w o z.0 (h z.0 z.1)

  -- what goes with owned documents is owned
  pub under-own : (gone : List DocumentNumber) → ((n : DocumentNumber) → one_of n gone ≡ true → F.own (document, n.0) ≡ true) → Removable F (observed (under gone) b)
  unfolding observed removal even
  under-own gone h = record { windows-own = ws; documents-own = ds }
    where
      q : Document → Bool
      q d = one_of d.number gone || is_under steps (b windows) (b documents) gone d.window

      ws : (w : WindowNumber) → window_one_of w (map (λ (r : Window). r.number) (keep (λ (r : Window). is_under steps (b windows) (b documents) gone r.number) (b windows))) ≡ true → F.own (window, w.0) ≡ true
      ws w e =
          let l : List Window = keep (λ (r : Window). is_under steps (b windows) (b documents) gone r.number) (b windows) in
          let z = in_map (λ (r : Window). r.number) l w (window_in w (map (λ (r : Window). r.number) l) e) in
          let y = in_keep (λ (r : Window). is_under steps (b windows) (b documents) gone r.number) (b windows) z.0 z.1 in
          ap (λ (k : WindowNumber). F.own (window, k.0)) z.2 ∙ under-part F.own b even steps gone h z.0.number y.1

      ds : (n : DocumentNumber) → one_of n (map (λ (d : Document). d.number) (keep q (b documents))) ≡ true → F.own (document, n.0) ≡ true
      ds n e =
          let z = in_map (λ (d : Document). d.number) (keep q (b documents)) n (one_in n (numbers (keep q (b documents))) e) in
          let y = in_keep q (b documents) z.0 z.1 in
          ap (λ (k : DocumentNumber). F.own (document, k.0)) z.2 ∙ (document_even F.own b even z.0 y.0 ∙ document-part F.own b even gone h z.0 y.0 y.1)

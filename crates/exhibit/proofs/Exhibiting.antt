-- What was looked up and written is what the definitions exhibit. No code stands here.
--     shown-whole                                  the parts, for the origin that was computed
--     exhibits_closed                              8
--     exhibits_lacking                             3
--     exhibits_found                               it was written; or it had no room: 7
use mathlib.Core.Path.{◌≡◌, refl, sym, ap, ap₂, ◌∙◌}
use mathlib.Core.Bool.{Bool, true, false, cond}
use mathlib.Core.List.{List}
use Rattle.std.specs.Prelude.{Option, None as none, Some as some}
use Prim.Native.Nat.{ℕ, ◌+◌}
use lib.Dec.{leb}
use lib.ListN.{length}
use Rattle.csexp.specs.Text.{text}
use Rattle.csexp.specs.Term.{Term, list, Terms, nil, cons, write}
use Rattle.csexp.specs.Encode.{number_term, labelled}
use Rattle.csexp.specs.Sent.{Written, Sent}
use Rattle.std.specs.Prelude.{Ok, Err}
use Rattle.std.specs.Prelude.{ok_or}
use Rattle.tables.specs.Tables.{windows, documents, local_storage, session_storage, Tables}
use Rattle.tables.specs.Rows.{origin_of}
use Rattle.wim.specs.Nouns.{WindowNumber, Origin, Top, Document, Missing, Lacking, NoRoom, Closed}
use Rattle.wim.specs.Step.{Accepted}
use Rattle.wim.specs.Walks.{active_document, steps, reached_from}
use Rattle.wim.specs.Program.{observed}
use Rattle.browser.specs.View.{view, is_closed, browser}
use Rattle.wim.specs.Wire.{put_into}
use Rattle.wim.specs.Shown.{inputs_term, cookies_term, local_term, session_term, shown_to, Shown, hidden, shown, shown_document, shown_window, what_is_shown}
use Rattle.history.specs.Display.{Display, display, display_at}
use Rattle.exhibit_parts.specs.Kept.{local_at, session_at}
use Rattle.exhibit.specs.Levels.{windows_under}
use Rattle.exhibit.specs.Exhibits.{withheld, exhibited, exhibit, saying, Shows}

-- THE WHOLE, as the code writes it for some origin.
abbrev pub parts : Tables → Origin → WindowNumber → Document → Terms → Term
parts b o top d ts =
    list
    (cons (list ts)
    (cons (labelled (text "document") d.number.0)
    (cons (number_term d.state.0)
    (cons (inputs_term b d.number)
    (cons (cookies_term b o)
    (cons (local_term (local_at o (b local_storage)))
    (cons (session_term (session_at o top (b session_storage))) nil)))))))

pub shown-whole : (b : Tables) (top : WindowNumber) (d : Document) (o : Origin) → o ≡ origin_of d → parts b o top d (windows_under steps b o Top) ≡ shown_to b top d
unfolding shown_to
shown-whole b top d o e = ap (λ (x : Origin). parts b x top d (windows_under steps b x Top)) e

-- WHAT WAS FOUND.
abbrev pub looks_like : Tables → Display → Shown
looks_like b (Err m) = hidden (Lacking m)
looks_like b (Ok (top, d)) = shown (shown_to b top d)

look_like : (b : Tables) (w : WindowNumber) → looks_like b (display_at w b) ≡ shown_window b w (reached_from steps (b windows) (b documents) w)
unfolding observed
look_like b w = go (reached_from steps (b windows) (b documents) w)
  where
    by : (top : WindowNumber) (y : Option Document) → looks_like b (display (some top) y) ≡ shown_document b top y
    by top none = refl
    by top (some d) = refl

    go : (x : Option WindowNumber) → looks_like b (display x (active_document (b documents) w)) ≡ shown_window b w x
    go none = refl
    go (some top) = by top (active_document (b documents) w)

-- WHAT IS GIVEN.
abbrev text_of : List ℕ → WindowNumber → Document → List ℕ
text_of m top d = write (shown_to (view m) top d)

module _ (m : List ℕ) (w : WindowNumber) (out : List ℕ) (place : ℕ) where
  pub exhibits_closed : is_closed m ≡ true → Shows m w out place (Err Closed) out
  unfolding exhibit what_is_shown
  exhibits_closed e = record { tells = ap (λ (c : Bool). exhibited (cond c (hidden Closed) (shown_window (view m) w (reached_from steps (view m windows) (view m documents) w))) out place) (sym e) }

  open_tells : (x : Display) → is_closed m ≡ false → x ≡ display_at w (view m) → exhibited (looks_like (view m) x) out place ≡ exhibit (browser m) w out place
  unfolding exhibit what_is_shown
  open_tells x e f =
      ap (λ (y : Display). exhibited (looks_like (view m) y) out place) f
      ∙ ap (λ (y : Shown). exhibited y out place) (look_like (view m) w)
      ∙ ap (λ (c : Bool). exhibited (cond c (hidden Closed) (shown_window (view m) w (reached_from steps (view m windows) (view m documents) w))) out place) (sym e)

  pub exhibits_lacking : (x : Missing) → is_closed m ≡ false → Err x ≡ display_at w (view m) → Shows m w out place (Err (Lacking x)) out
  exhibits_lacking x e f = record { tells = open_tells (Err x) e f }

  pub exhibits_found : (top : WindowNumber) (d : Document) → is_closed m ≡ false → Ok (top, d) ≡ display_at w (view m) → {x : Written} {out₂ : List ℕ}
      → Sent (write (shown_to (view m) top d)) out place out₂ x → Shows m w out place (ok_or x NoRoom) out₂
  exhibits_found top d e f {x} {out₂} s = record { tells = go (leb (place + length (text_of m top d)) (length out)) s.says s.leaves ∙ open_tells (Ok (top, d)) e f }
    where
      go : (t : Bool) → x ≡ cond t (some (length (text_of m top d))) none → out₂ ≡ cond t (put_into out place (text_of m top d)) out
          → saying (ok_or x NoRoom) out₂ ≡ cond t (record { verdict = Accepted; count = length (text_of m top d); buffer = put_into out place (text_of m top d) }) (withheld NoRoom out)
      go true g h = ap₂ (λ (y : Written) (o : List ℕ). saying (ok_or y NoRoom) o) g h
      go false g h = ap₂ (λ (y : Written) (o : List ℕ). saying (ok_or y NoRoom) o) g h

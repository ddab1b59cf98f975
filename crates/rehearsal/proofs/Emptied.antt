-- Nine tables cleared one after the other, and open: the empty browser.
use mathlib.Core.Path.{◌≡◌, refl, ap, ◌∙◌}
use mathlib.Core.Bool.{false}
use mathlib.Core.List.{List, []}
use Prim.Native.Nat.{ℕ}
use Rattle.tables.specs.Tables.{Table, windows, documents, cookies, local_storage, session_storage, inputs, pending_dns, pending_requests, sts, Tables, no_rows, update}
use Rattle.tables.proofs.Update.{same_tables}
use Rattle.memory.specs.Rows.{Cleared}
use Rattle.wim.specs.Step.{empty_browser}
use Rattle.browser.specs.View.{laid, view, browser, with_closed}
use Rattle.browser.proofs.Frame.{changes-one}

-- the table is cleared
abbrev without : Table → Tables → Tables
without t b = update t (λ l. []) b

cleared : (t : Table) {m n : List ℕ} → Cleared (laid t) m n → view n ≡ without t (view m)
cleared t k = changes-one t (λ l. []) k.rest k.rows

nothing_left : (b : Tables) → without sts (without pending_requests (without pending_dns (without inputs (without session_storage (without local_storage (without cookies (without documents (without windows b)))))))) ≡ no_rows
nothing_left b = same_tables _ no_rows refl refl refl refl refl refl refl refl refl

pub emptied : {m a b c d e f g h i : List ℕ} → Cleared (laid windows) m a → Cleared (laid documents) a b → Cleared (laid cookies) b c → Cleared (laid local_storage) c d → Cleared (laid session_storage) d e
    → Cleared (laid inputs) e f → Cleared (laid pending_dns) f g → Cleared (laid pending_requests) g h → Cleared (laid sts) h i → with_closed false (browser i) ≡ empty_browser
emptied {m} q r s t u v w x y =
    let gone =
    cleared sts y
    ∙ ap (without sts) (cleared pending_requests x
    ∙ ap (without pending_requests) (cleared pending_dns w
    ∙ ap (without pending_dns) (cleared inputs v
    ∙ ap (without inputs) (cleared session_storage u
    ∙ ap (without session_storage) (cleared local_storage t
    ∙ ap (without local_storage) (cleared cookies s
    ∙ ap (without cookies) (cleared documents r
    ∙ ap (without documents) (cleared windows q))))))))
    ∙ nothing_left (view m) in
    ap (λ (k : Tables). record { tables = k; closed = false }) gone

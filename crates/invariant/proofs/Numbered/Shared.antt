-- The programs that others call are orderly: HTTP_SEND, CANCELNAV, NAVBACK, NAVFORWARD, what every script stores, what goes with a document.
use mathlib.Core.Path.{refl}
use mathlib.Core.Bool.{Bool, true, false, ◌&&◌}
use mathlib.Core.List.{List}
use Rattle.std.specs.Prelude.{Option, None as none, Some as some}
use Prim.Native.Nat.{ℕ}
use lib.Dec.{eqb}
use Rattle.tables.specs.Tables.{windows, documents, cookies, local_storage, session_storage, inputs, pending_dns, pending_requests, Tables}
use Rattle.tables.specs.Labels.{request, dns}
use Rattle.tables.specs.Rows.{same_window, same_document, with_active, with_state, changing, setting_active}
use Rattle.wim.specs.Nouns.{WindowNumber, DocumentNumber, Cookie, Cancelled, Bare, Sending, Output, Document}
use Rattle.wim.specs.Walks.{Removal, active_among}
use Rattle.wim.specs.Program.{Program, done, history}
use Rattle.wim.specs.Sending.{cancel_nav, send}
use Rattle.wim.specs.History.{document_before, document_after, neighbour, place_of, moved, nav_back, nav_forward}
use Rattle.wim.specs.Script.{store, remove}
use Rattle.invariant.proofs.Numbered.Once.{once_question}
use Rattle.invariant.proofs.Numbered.Kept.{Stays, stays_if, once_kept, new-question, new-request}
use Rattle.invariant.proofs.Numbered.Orderly.{Orderly, ends-done, ends-edit, orderly_refuse, orderly_ask, orderly_bring, orderly_edit, orderly_cut, orderly_revise, orderly_done}

-- a document changed where it has a number, or stands at a place
pub stays-changing : (n : DocumentNumber) (f : Document → Document) → Stays f → Stays (changing n f)
stays-changing n f h = stays_if (λ d. same_document d.number n) f h

pub stays-active : (w : WindowNumber) (place : ℕ) (t : Bool) → Stays (setting_active w place t)
stays-active w place t = stays_if (λ d. same_window d.window w && eqb d.place place) (with_active t) (λ d. (refl, refl))

-- what a step does first keeps what comes after it orderly
abbrev pub Leads : Tables → (Program → Program) → Type 0
Leads a storing = (p : Program) → Orderly a p → Orderly a (storing p)

module _ {a : Tables} where
  -- a new question, with a number of its own and a request of its own
  pub orderly_send : (o : Sending) → Orderly a (send o)
  unfolding send
  orderly_send o =
      orderly_ask _ _ (λ strict. orderly_ask _ _ (λ chosen. orderly_bring request _ (λ q fresh. orderly_bring dns _ (λ n _ b K.
      ends-edit pending_dns _ _ b (ends-done _ _ (once_question b (once_kept K) _ (new-question K q fresh) (new-request K q fresh)))))))

  pub orderly_cancel : (c : Cancelled) (p : Program) → Orderly a p → Orderly a (cancel_nav c p)
  orderly_cancel c p g = orderly_cut pending_requests _ _ refl (orderly_cut pending_dns _ p refl g)

  pub orderly_remove : (gone : Removal) (p : Program) → Orderly a p → Orderly a (remove gone p)
  orderly_remove gone p g = orderly_cut windows _ _ refl (orderly_cut documents _ _ refl (orderly_cut inputs _ p refl g))

  pub orderly_store : (d : Document) (top : WindowNumber) (merged : List Cookie) (out : Output) (p : Program) → Orderly a p → Orderly a (store d top merged out p)
  orderly_store d top merged out p g =
      orderly_edit cookies _ _ (λ r i. tt)
      (orderly_edit local_storage _ _ (λ r i. tt)
      (orderly_edit session_storage _ _ (λ r i. tt)
      (orderly_revise _ p (stays-changing d.number (with_state out.state) (λ e. (refl, refl))) g)))

  module _ (w : WindowNumber) (storing : Program → Program) (L : Leads a storing) where
    orderly_moved : (ds : List Document) (o : Option Document) → Orderly a (moved w storing ds o)
    unfolding moved
    orderly_moved ds none = orderly_refuse _
    orderly_moved ds (some e) =
        L _
        (orderly_revise _ _ (stays-active w (place_of (active_among ds)) false)
        (orderly_revise _ _ (stays-active w e.place true)
        (orderly_cancel (Bare w) (done none) (orderly_done none))))

    pub orderly_back : Orderly a (nav_back w storing)
    unfolding nav_back
    orderly_back = orderly_ask (history w) _ (λ ds. orderly_moved ds (neighbour document_before ds (active_among ds)))

    pub orderly_forward : Orderly a (nav_forward w storing)
    unfolding nav_forward
    orderly_forward = orderly_ask (history w) _ (λ ds. orderly_moved ds (neighbour document_after ds (active_among ds)))

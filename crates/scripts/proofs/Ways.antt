-- The ways through RUNSCRIPT and through its commands that load nothing, up to what each does behind the store. No code stands here.
use mathlib.Core.Path.{◌≡◌, refl, sym, ◌∙◌, ap}
use mathlib.Core.Bool.{Bool, true, false, cond}
use mathlib.Core.List.{List, [], ◌∷◌, map}
use Rattle.std.specs.Prelude.{Option, None as none, Some as some, Ok, Err}
use Prim.Native.Nat.{ℕ}
use lib.ListN.{length}
use Rattle.types.specs.Perhaps.{Addressee}
use Rattle.types.specs.Lists.{cookies_in}
use Rattle.types.specs.declared.Fresh.{Fresh}
use Rattle.types.specs.declared.WindowNumber.{WindowNumber}
use Rattle.types.specs.declared.commands.Command.TheVariants.{Close}
use Rattle.types.specs.declared.cookies.Cookie.{Cookie}
use Rattle.types.specs.declared.items.Output.{Output}
use Rattle.types.specs.declared.refusals.Missing.{Missing}
use Rattle.types.specs.declared.refusals.Missing.TheVariants.{NoWindow}
use Rattle.types.specs.declared.refusals.Refusal.TheVariants.{Lacking, Stopped}
use Rattle.types.specs.declared.rows.Document.{Document}
use Rattle.types.specs.declared.rows.HostCookie.{HostCookie}
use Rattle.types.specs.declared.rows.Input.{Input}
use Rattle.types.specs.declared.rows.News.{News}
use Rattle.types.specs.declared.rows.News.TheVariants.{Posted}
use Rattle.sorted.specs.Table.{put, keep}
use Rattle.tables.specs.Tables.{windows, documents, cookies, inputs, Tables}
use Rattle.tables.specs.Labels.{Label}
use Rattle.tables.specs.Rows.{same_document, origin_of, same_host, changing}
use Rattle.wim.specs.Walks.{documents_of, steps, reached_from, active_document, Removal, removal}
use Rattle.wim.specs.Cookies.{cookie_merge}
use Rattle.wim.specs.Program.{Program, ask, observed, active, cookies_of, navigated, edit, revise, done, needs, Outcome, run}
use Rattle.wim.specs.Script.{get_navigable_window, setting, remove, with_window, close, is_for, file, deliver, post_message, store, command, run_script}
use Rattle.wim.specs.Step.{fresh_labels}
use Rattle.browser.specs.View.{view}
use Rattle.stepping.specs.Gives.{Performed}
use Rattle.stepping.specs.Performs.{Performs}
use Rattle.stepping.proofs.Carry.{unedited}
use Rattle.stepping.proofs.Ways.{refuses, performs_as}
use Rattle.documents.specs.Told.{number_of}
use Rattle.history.specs.declared.Towards.{Towards}
use Rattle.history.specs.Display.{display_at}
use Rattle.history.specs.Directions.{nav, way, turn, going}
use Rattle.history.proofs.Ways.{display-goes, goes}
use Rattle.storing.specs.declared.scene.Scene.{Scene}
use Rattle.storing.specs.Gotten.{gotten}
use Rattle.storing.specs.Next.{next_input}
use Rattle.storing.specs.Stored.{storing, stored}

module _ (s : Scene) (m : List ℕ) where
  -- SETSCRIPT, SETSCRIPTSTATE
  pub sets : (x : WindowNumber) (g : Document → Document) (e : Document) {n : List ℕ} {r : Performed} → e ≡ gotten (view m windows) (view m documents) s.document x
      → Performs (storing s (revise documents (changing e.number g) (done none))) s.fresh m n r → Performs (setting s.document (storing s) x g) s.fresh m n r
  unfolding run setting observed
  sets x g e q = performs_as (setting s.document (storing s) x g) (storing s (revise documents (changing e.number g) (done none)))
      (ap (λ (d : Document). run (storing s (revise documents (changing d.number g) (done none))) (view m) (fresh_labels s.fresh)) (sym q))

  -- A1: the window v is found, and the rest goes on from there
  module _ (x v : WindowNumber) (t : v ≡ observed (navigated s.window s.document x) (view m)) where
    lands : (k : WindowNumber → Program) (g : List Label) → run (get_navigable_window s.window s.document x k) (view m) g ≡ run (k v) (view m) g
    unfolding run
    lands k g = ap (λ (u : WindowNumber). run (k u) (view m) g) (sym t)

    -- BACK, FORWARD
    module _ (q : Towards) where
      abbrev moving : Program
      moving = get_navigable_window s.window s.document x (λ (u : WindowNumber). nav q u (storing s))

      found : (o : Option (ℕ × ℕ)) → o ≡ way q v (view m documents) → run moving (view m) (fresh_labels s.fresh) ≡ run (going (storing s) v o) (view m) (fresh_labels s.fresh)
      found o e =
          lands (λ (u : WindowNumber). nav q u (storing s)) (fresh_labels s.fresh) ∙ goes (storing s) v q (view m) (fresh_labels s.fresh)
          ∙ ap (λ (o : Option (ℕ × ℕ)). run (going (storing s) v o) (view m) (fresh_labels s.fresh)) (sym e)

      pub nowhere : {r : Performed} → none ≡ way q v (view m documents) → r ≡ Err Stopped → Performs moving s.fresh m m r
      unfolding run
      nowhere e a = refuses moving s.fresh (found none e) a

      pub turns : (from to : ℕ) {n : List ℕ} {r : Performed} → some (from, to) ≡ way q v (view m documents) → Performs (storing s (turn v from to)) s.fresh m n r → Performs moving s.fresh m n r
      turns from to e = performs_as moving (storing s (turn v from to)) (found (some (from, to)) e)

    -- CLOSE
    pub closes : (gone : Removal) {n : List ℕ} {r : Performed} → gone ≡ with_window v (removal (view m windows) (view m documents) (map number_of (documents_of (view m documents) v)))
        → Performs (storing s (remove gone (done none))) s.fresh m n r → Performs (command s.window s.document (storing s) (Close x)) s.fresh m n r
    unfolding run observed command close
    closes gone g =
        let closing : Removal → Outcome = λ z. run (storing s (remove z (done none))) (view m) (fresh_labels s.fresh) in
        performs_as (command s.window s.document (storing s) (Close x)) (storing s (remove gone (done none)))
        (ap (λ (u : WindowNumber). closing (with_window u (removal (view m windows) (view m documents) (map number_of (documents_of (view m documents) u))))) (sym t) ∙ ap closing (sym g))

-- POSTMESSAGE
module _ (s : Scene) (message : ℕ) (to : Addressee) where
  abbrev news : News
  news = Posted s.window (origin_of s.document) message

  abbrev posts : WindowNumber → Program
  posts x = post_message s.window s.document (storing s) x message to

  -- 84: the window is reached, or not
  towards : WindowNumber → Option WindowNumber → Tables → List Label → Outcome
  towards x top = run (needs NoWindow top (λ v. ask (active x) (λ o. deliver s.window s.document (storing s) message to o)))

  delivers : Option Document → Tables → List Label → Outcome
  delivers o = run (deliver s.window s.document (storing s) message to o)

  posted : (x : WindowNumber) (top : Option WindowNumber) (b : Tables) (f : List Label) → top ≡ reached_from steps (b windows) (b documents) x → run (posts x) b f ≡ towards x top b f
  unfolding run post_message observed towards
  posted x top b f e = ap (λ (o : Option WindowNumber). towards x o b f) (sym e)

  reached_target : (x top : WindowNumber) (o : Option Document) (b : Tables) (f : List Label) → o ≡ active_document (b documents) x → towards x (some top) b f ≡ delivers o b f
  unfolding run observed towards delivers
  reached_target x top o b f e = ap (λ (o : Option Document). delivers o b f) (sym e)

  -- 85: the message is for the active document, or not
  filed : (d : Document) (b : Tables) (f : List Label) (a : Bool) → is_for to d ≡ a
      → delivers (some d) b f ≡ run (edit inputs (cond a (file d.number (length (keep (λ (i : Input). same_document i.document d.number) (b inputs))) news) []) (done none)) (stored s b) f
  unfolding run deliver observed delivers
  filed d b f a e = ap (λ (x : Bool). run (edit inputs (cond x (file d.number (length (keep (λ (i : Input). same_document i.document d.number) (b inputs))) news) []) (done none)) (stored s b) f) e

  module _ (x : WindowNumber) {m : List ℕ} {r : Performed} where
    pub unreached : none ≡ reached_from steps (view m windows) (view m documents) x → r ≡ Err (Lacking NoWindow) → Performs (posts x) s.fresh m m r
    unfolding run towards
    unreached e a = refuses (posts x) s.fresh (posted x none (view m) (fresh_labels s.fresh) e) a

    module _ {top : WindowNumber} {n : List ℕ} (t : some top ≡ reached_from steps (view m windows) (view m documents) x) where
      pub heard : (d : Document) → some d ≡ active_document (view m documents) x → is_for to d ≡ true → (row : Input) → row ≡ next_input d.number news (view m inputs)
          → Performs (storing s (edit inputs (put row ∷ []) (done none))) s.fresh m n r → Performs (posts x) s.fresh m n r
      unfolding run
      heard d e i row q = performs_as (posts x) (storing s (edit inputs (put row ∷ []) (done none)))
          (posted x (some top) (view m) (fresh_labels s.fresh) t ∙ reached_target x top (some d) (view m) (fresh_labels s.fresh) e ∙ filed d (view m) (fresh_labels s.fresh) true i
          ∙ ap (λ (z : Input). run (edit inputs (put z ∷ []) (done none)) (stored s (view m)) (fresh_labels s.fresh)) (sym q))

      pub unheard : (o : Option Document) → o ≡ active_document (view m documents) x → ((d : Document) → o ≡ some d → is_for to d ≡ false)
          → Performs (storing s (done none)) s.fresh m n r → Performs (posts x) s.fresh m n r
      unfolding run deliver delivers
      unheard o e i = performs_as (posts x) (storing s (done none)) (posted x (some top) (view m) (fresh_labels s.fresh) t ∙ reached_target x top o (view m) (fresh_labels s.fresh) e ∙ go o i)
        where
          go : (o : Option Document) → ((d : Document) → o ≡ some d → is_for to d ≡ false) → delivers o (view m) (fresh_labels s.fresh) ≡ run (storing s (done none)) (view m) (fresh_labels s.fresh)
          go none i = refl
          go (some d) i = filed d (view m) (fresh_labels s.fresh) false (i d refl) ∙ ap (λ (v : Tables). run (done none) v (fresh_labels s.fresh)) (unedited inputs (stored s (view m)))

-- RUNSCRIPT. Its cookies are those of the host, merged with the script's.
abbrev acting : WindowNumber → Output → List Cookie → WindowNumber → Document → Program
acting w out new top d = ask (cookies_of d.location.host) (λ old. command w d (store d top (cookie_merge old new d.location.protocol) out) out.command)

module _ (w : WindowNumber) (out : Output) (new : List Cookie) {m : List ℕ} where
  pub lacks : {f : Fresh} (what : Missing) {r : Performed} → Err what ≡ display_at w (view m) → r ≡ Err (Lacking what) → Performs (run_script w out new) f m m r
  unfolding run_script
  lacks {f} what e a = refuses (run_script w out new) f (display-goes w (acting w out new) (view m) (fresh_labels f) (Err what) e) a

  pub acts : (s : Scene) → Ok (s.top, s.document) ≡ display_at w (view m)
      → cookies_in s.merged ≡ cookie_merge (keep (λ (c : HostCookie). same_host c.host s.document.location.host) (view m cookies)) new s.document.location.protocol
      → {n : List ℕ} {r : Performed} → Performs (command w s.document (store s.document s.top (cookies_in s.merged) out) out.command) s.fresh m n r → Performs (run_script w out new) s.fresh m n r
  unfolding run observed run_script
  acts s e q = performs_as (run_script w out new) (command w s.document (store s.document s.top (cookies_in s.merged) out) out.command)
      (display-goes w (acting w out new) (view m) (fresh_labels s.fresh) (Ok (s.top, s.document)) e
      ∙ ap (λ (l : List Cookie). run (command w s.document (store s.document s.top l out) out.command) (view m) (fresh_labels s.fresh)) (sym q))

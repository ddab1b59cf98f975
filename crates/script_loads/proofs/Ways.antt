-- The ways through the commands that load something, up to where each has found what it loads and into what. No code stands here.
use mathlib.Core.Path.{◌≡◌, refl}
use mathlib.Core.Bool.{Bool, true, false, cond}
use mathlib.Core.List.{List}
use Prim.Native.Nat.{ℕ}
use Rattle.std.specs.Prelude.{Err}
use Rattle.types.specs.declared.Data.{Data}
use Rattle.types.specs.declared.Method.{Method}
use Rattle.types.specs.declared.Reference.{Reference}
use Rattle.types.specs.declared.Url.{Url}
use Rattle.types.specs.declared.WindowNumber.{WindowNumber}
use Rattle.types.specs.declared.commands.Holder.{Holder}
use Rattle.types.specs.declared.commands.Holder.TheVariants.{Itself, Within}
use Rattle.types.specs.declared.commands.Target.{Target}
use Rattle.types.specs.declared.commands.Target.TheVariants.{NewWindow, Existing}
use Rattle.types.specs.declared.refusals.Refusal.TheVariants.{Stopped}
use Rattle.types.specs.declared.rows.Document.{Document}
use Rattle.tables.specs.Tables.{windows, documents}
use Rattle.tables.specs.Rows.{origin_of, same_origin}
use Rattle.wim.specs.Navigable.{may_navigate}
use Rattle.wim.specs.Program.{Program, observed, run}
use Rattle.wim.specs.Sending.{send}
use Rattle.wim.specs.Script.{href, iframe_in, iframe, is_form_method, form, is_forbidden, url_origin, xhr_sending, xhr}
use Rattle.browser.specs.View.{view}
use Rattle.stepping.specs.Gives.{Performed}
use Rattle.stepping.specs.Performs.{Performs}
use Rattle.stepping.proofs.Ways.{refuses, performs_as}
use Rattle.storing.specs.declared.scene.Scene.{Scene}
use Rattle.storing.specs.Gotten.{gotten}
use Rattle.storing.specs.Stored.{storing}
use Rattle.script_loads.specs.declared.navigation.Load.{Load}
use Rattle.script_loads.specs.declared.navigation.Load.TheVariants.{Link, Form}
use Rattle.script_loads.specs.Navigation.{sent_into, opener_by, into_existing, navigation}

module _ (s : Scene) where
  -- HREF AND FORM. What the code's `navigate` is held to:
  abbrev loading : Load → Target → Program
  loading l target = navigation s.window s.document (storing s) (opener_by l s.window) (sent_into s.document l) target

  -- v is the window that GETNAVIGABLEWINDOW gives
  pub navigates : (l : Load) {target : Target} {x v : WindowNumber} {m n : List ℕ} {r : Performed} → target ≡ Existing x
      → v ≡ cond (may_navigate (view m windows) (view m documents) (origin_of s.document) s.window x) x s.window
      → Performs (into_existing (storing s) (sent_into s.document l) v) s.fresh m n r → Performs (loading l target) s.fresh m n r
  unfolding run observed
  navigates l {target} {x} {v} t e = performs_as (loading l target) (into_existing (storing s) (sent_into s.document l) v) (rw (t, e))

  module _ (url : Url) where
    pub href_loads : (noreferrer : Bool) (target : Target) {m n : List ℕ} {r : Performed}
        → Performs (loading (Link url noreferrer) target) s.fresh m n r → Performs (href s.window s.document (storing s) url noreferrer target) s.fresh m n r
    unfolding href
    href_loads noreferrer NewWindow a = a
    href_loads noreferrer (Existing x) a = a

    module _ (method : Method) (body : Data) where
      pub form_loads : (target : Target) {m n : List ℕ} {r : Performed} → is_form_method method ≡ true
          → Performs (loading (Form url method body) target) s.fresh m n r → Performs (form s.window s.document (storing s) url method body target) s.fresh m n r
      unfolding form
      form_loads NewWindow e a = rw e a
      form_loads (Existing x) e a = rw e a

      pub form_stops : (target : Target) {m : List ℕ} → is_form_method method ≡ false → Performs (form s.window s.document (storing s) url method body target) s.fresh m m (Err Stopped)
      unfolding run form
      form_stops NewWindow e = refuses (form s.window s.document (storing s) url method body NewWindow) s.fresh (rw e) refl
      form_stops (Existing x) e = refuses (form s.window s.document (storing s) url method body (Existing x)) s.fresh (rw e) refl

      -- XMLHTTPREQUEST
      module _ (reference : Reference) where
        pub method_stops : {m : List ℕ} → is_forbidden method ≡ true → Performs (xhr s.document (storing s) url method body reference) s.fresh m m (Err Stopped)
        unfolding run xhr
        method_stops p = refuses (xhr s.document (storing s) url method body reference) s.fresh (rw p) refl

        pub origin_stops : {m : List ℕ} → is_forbidden method ≡ false → same_origin (url_origin url) (origin_of s.document) ≡ false → Performs (xhr s.document (storing s) url method body reference) s.fresh m m (Err Stopped)
        unfolding run xhr
        origin_stops p q = refuses (xhr s.document (storing s) url method body reference) s.fresh (rw (p, q)) refl

        pub xhr_fetches : {m n : List ℕ} {r : Performed} → is_forbidden method ≡ false → same_origin (url_origin url) (origin_of s.document) ≡ true
            → Performs (storing s (send (xhr_sending s.document url method body reference))) s.fresh m n r → Performs (xhr s.document (storing s) url method body reference) s.fresh m n r
        unfolding xhr
        xhr_fetches p q a = rw (p, q) a

    -- IFRAME
    module _ {holder : Holder} (e : Document) {m n : List ℕ} {r : Performed} where
      pub frame_in_own : holder ≡ Itself → e ≡ s.document → Performs (iframe_in s.document (storing s) url e) s.fresh m n r → Performs (iframe s.document (storing s) url holder) s.fresh m n r
      unfolding iframe
      frame_in_own h g a = rw h (rw g at a)

      pub frame_in_other : {x : WindowNumber} → holder ≡ Within x → e ≡ gotten (view m windows) (view m documents) s.document x
          → Performs (iframe_in s.document (storing s) url e) s.fresh m n r → Performs (iframe s.document (storing s) url holder) s.fresh m n r
      unfolding run observed iframe
      frame_in_other {x} h g = performs_as (iframe s.document (storing s) url holder) (iframe_in s.document (storing s) url e) (rw (h, g))

-- The ways through urlbar, on any tables and fresh numbers. No code stands here.
use mathlib.Core.Path.{◌≡◌, refl}
use mathlib.Core.Bool.{true, false}
use mathlib.Core.List.{List}
use Rattle.std.specs.Prelude.{None as none, Some as some}
use Rattle.types.specs.declared.Url.{Url}
use Rattle.types.specs.declared.Fresh.{Fresh}
use Rattle.types.specs.declared.WindowNumber.{WindowNumber}
use Rattle.types.specs.declared.rows.Document.{Document}
use Rattle.types.specs.declared.commands.Target.TheVariants.{NewWindow, Existing}
use Rattle.types.specs.declared.refusals.Missing.TheVariants.{NoWindow, NoDocument}
use Rattle.types.specs.declared.refusals.Refusal.TheVariants.{Lacking}
use Rattle.types.specs.declared.Reference.TheVariants.{Req}
use Rattle.std.specs.Prelude.{None as Unknown}
use Rattle.tables.specs.Tables.{windows, documents, Tables}
use Rattle.tables.specs.Labels.{Label}
use Rattle.wim.specs.Walks.{window_numbered, active_document}
use Rattle.wim.specs.Program.{is_top, observed, refused, run}
use Rattle.wim.specs.Sending.{send}
use Rattle.wim.specs.Main.{sending_to, urlbar}
use Rattle.stepping.specs.Brings.{Brings}
use Rattle.stepping.specs.Wanted.{kinds, picked, wants_open}
use Rattle.stepping.proofs.Sends.{brings_send}

-- INTO A NEW WINDOW.
pub brings_new : (url : Url) (f : Fresh) → Brings (kinds (picked wants_open f)) (urlbar url NewWindow)
unfolding urlbar
brings_new url f = (refl, λ w. brings_send (sending_to (Req (record { 0 = w })) url Unknown))

-- INTO A TOP-LEVEL WINDOW THAT IS THERE, and shows something.
module _ (url : Url) (w : WindowNumber) (b : Tables) (f : List Label) where
  pub below : is_top (window_numbered (b windows) w) ≡ false → run (urlbar url (Existing w)) b f ≡ refused (Lacking NoWindow)
  unfolding run observed urlbar
  below e = rw (e, run)

  pub bare : is_top (window_numbered (b windows) w) ≡ true → active_document (b documents) w ≡ none → run (urlbar url (Existing w)) b f ≡ refused (Lacking NoDocument)
  unfolding run observed urlbar
  bare e g = rw (e, g, run)

  pub shown : {d : Document} → is_top (window_numbered (b windows) w) ≡ true → active_document (b documents) w ≡ some d → run (urlbar url (Existing w)) b f ≡ run (send (sending_to (Req w) url Unknown)) b f
  unfolding run observed urlbar
  shown e g = rw (e, g, run)

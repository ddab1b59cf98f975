-- HREF and FORM share all but what is sent and the opener of a new window.
use Rattle.std.specs.Prelude.{[], ◌∷◌}
use Rattle.types.specs.declared.commands.Target.{Target}
use Rattle.types.specs.declared.commands.Target.TheVariants.{NewWindow, Existing}
use Rattle.types.specs.declared.WindowNumber.{WindowNumber}
use Rattle.types.specs.declared.Cancelled.TheVariants.{Labelled}
use Rattle.types.specs.declared.Method.TheVariants.{Get}
use Rattle.types.specs.declared.OriginHeader.TheVariants.{Unsent}
use Rattle.types.specs.declared.Reference.TheVariants.{Req}
use Rattle.types.specs.declared.Sending.{Sending}
use Rattle.types.specs.declared.rows.Document.{Document}
use Rattle.types.specs.declared.rows.Window.{Window}
use Rattle.types.specs.Perhaps.{Opener}
use Rattle.std.specs.Prelude.{Some as OpenedBy}
use Rattle.sorted.specs.Table.{put}
use Rattle.tables.specs.Tables.{windows, Tables, apply}
use Rattle.tables.specs.Labels.{window}
use Rattle.wim.specs.Program.{Program, edit, bring, ◌>>=◌, ◌>>◌}
use Rattle.wim.specs.Sending.{cancel_nav, send}
use Rattle.sending.specs.Cancels.{cancelled}
use Rattle.wim.specs.Script.{no_data, get_navigable_window, new_top_window, opener_unless, sending_from, href_policy, form_sending}
use Rattle.script_loads.specs.declared.navigation.Load.{Load}
use Rattle.script_loads.specs.declared.navigation.Load.TheVariants.{Link, Form}

-- 21 to 24, 40 to 49: what is sent into a window
abbrev pub sent_into : Document → Load → WindowNumber → Sending
sent_into d (Link url noreferrer) v = sending_from d (Req v) Get url url.parameters no_data Unsent (href_policy noreferrer d)
sent_into d (Form url method body) v = form_sending d url method body (Req v)

-- the opener of a new window, of a script in this one
abbrev pub opener_by : Load → WindowNumber → Opener
opener_by (Link url noreferrer) w = opener_unless noreferrer w
opener_by (Form url method body) w = OpenedBy w

-- what a new window changes in the tables, before the request goes out
abbrev pub opened : WindowNumber → Window → Tables → Tables
opened v row b = cancelled (Labelled (Req v)) (apply windows (put row ∷ []) b)

-- 25, 26 and 50, 51: what waits for the window is cancelled, and the request goes out
abbrev pub into : (WindowNumber → Sending) → WindowNumber → Program
into out v = do
  cancel_nav (Labelled (Req v))
  send (out v)

-- 20 and 39 with a new window (A1:2 to 8)
abbrev pub into_new : (Program → Program) → Opener → (WindowNumber → Sending) → Program
into_new storing opener out = do
  storing
  v ← bring window
  edit windows (put (new_top_window (record { 0 = v }) opener) ∷ [])
  into out (record { 0 = v })

abbrev pub into_existing : (Program → Program) → (WindowNumber → Sending) → WindowNumber → Program
into_existing storing out v = do
  storing
  into out v

abbrev pub navigation : WindowNumber → Document → (Program → Program) → Opener → (WindowNumber → Sending) → Target → Program
navigation w d storing opener out NewWindow = into_new storing opener out
navigation w d storing opener out (Existing x) = do
  v ← get_navigable_window w d x  -- A1:9, 10
  into_existing storing out v

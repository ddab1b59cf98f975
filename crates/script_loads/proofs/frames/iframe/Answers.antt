-- Under the script's own document, or under GETWINDOW's.
use Rattle.std.proofs.Common.{◌∙◌}
use Rattle.script_loads.proofs.Ways.{frame_in_own, frame_in_other}
use Rattle.script_loads.proofs.frames.iframe.Goals as goal
use Rattle.script_loads.proofs.frames.iframe.Goals.{in-Itself, in-Within}

pub returns : goal.returns
returns c = elim c.match-holder.branch [
  | in-Itself w ↦ frame_in_own c.args.s c.args.url c.match-holder.e w.in-Itself.is w.e-is c.hang.ensures
  | in-Within w ↦ frame_in_other c.args.s c.args.url c.match-holder.e w.in-Within.is (w.e-is ∙ w.get_window-e.ensures) c.hang.ensures
]

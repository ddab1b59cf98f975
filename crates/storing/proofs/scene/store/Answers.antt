-- Change by change.
use Rattle.std.proofs.Common.{rules}
use Rattle.tables.specs.Tables.{documents}
use Rattle.tables.specs.Rows.{with_state, changing}
use Rattle.stepping.proofs.Carry.{revised_carries}
use Rattle.storing.proofs.scene.Stores.{stores}
use Rattle.storing.proofs.scene.store.Goals as goal

pub returns-then-locally : goal.returns-then-locally
returns-then-locally c = stores c.args.s _ c.origin_of-o.ensures c.put_cookies-cookies.ensures c.store_local-locally.ensures c.store_session-sessions.ensures (revised_carries documents (c.revise.ensures.revised (changing c.args.s.document.number (with_state c.args.s.output.state)) (λ r s h. search rules))) (search rules)

pub returns-else-locally : goal.returns-else-locally
returns-else-locally c = stores c.args.s _ c.origin_of-o.ensures c.put_cookies-cookies.ensures c.store_local-locally.ensures c.store_session-sessions.ensures (revised_carries documents (c.revise.ensures.revised (changing c.args.s.document.number (with_state c.args.s.output.state)) (λ r s h. search rules))) (search rules)

-- `set_key` meets its contract. Assumes nothing.
use Rattle.std.proofs.Common.{sym, ap, ◌∙◌}
use Rattle.table.specs.Fleets.{table_in}
use Rattle.state.specs.Layout.{put}
use Rattle.steps.proofs.Acts.{store_entry}
use Rattle.acting.proofs.Sets.{stored_entry, entered_is, stored_is}
use Rattle.acting.proofs.setting.set_key.Goals as goal

pub returns-in-Entries : goal.returns-in-Entries
returns-in-Entries c =
    entered_is (table_in c.args.fleet.now) c.args.state.now c.args.agent c.args.node c.args.value c.requires c.p_at-key.result c.p_at-key.ensures.is _
    (stored_entry (table_in c.args.fleet.now) c.args.agent c.args.node c.requires.action _ (sym c.store_set.ensures ∙ c.in-Entries.is)) c.write_entry.ensures

pub returns-in_default : goal.returns-in_default
returns-in_default c =
    stored_is (table_in c.args.fleet.now) c.args.state.now c.args.agent c.args.node c.args.value c.requires c.p_at-key.result c.p_at-key.ensures.is _
    (λ e. c.in_default.not-Entries c.args.agent (c.store_set.ensures ∙ store_entry (table_in c.args.fleet.now) c.args.agent c.args.node e))
    (c.put.ensures ∙ ap (λ store. put store c.p_at-key.result c.args.value 1 c.args.state.now) c.store_set.ensures)

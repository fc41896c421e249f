use Rattle.std.proofs.Common.{map, refl, rules, subst}
use Rattle.std.specs.Prelude.{string_bytes}
use Rattle.flow_base.specs.Seen.{outside}
use Rattle.flowd_top.specs.Run.{WritesLast}
use Rattle.flowd_top.specs.declared.status.Status.TheVariants.{Usage}
use Rattle.flowd_top.proofs.Endings.{usage_leaves, one_form, made_up_leaves, lanes_meant, no_lanes_meant}
use Rattle.flowd_top.proofs.top.flowd.Goals as goal

pub returns-in_default-clause-printed : goal.returns-in_default-clause-printed
returns-in_default-clause-printed g c =
    let folder = g.F.Folder.seen c.args.folder.now in
    let script = g.S.Source.seen c.args.script.now in
    let out = g.K.Sink.seen c.args.out.now in
    let out' = g.K.Sink.seen c.write_last.new.out in
    usage_leaves (map string_bytes c.args.words.now) (outside folder script out) (outside folder script out') c.args.kept.now c.write_last.result (search rules)
    c.requires (g.met.F.Folder.bounded c.args.folder.now) refl (subst (λ bytes. WritesLast out.written out'.written bytes Usage c.write_last.result) c.usage.ensures c.write_last.ensures.writes)

pub returns-in-Folder-clause-made_up : goal.returns-in-Folder-clause-made_up
returns-in-Folder-clause-made_up g c = λ d n seed makes.
    absurd (one_form (map string_bytes c.args.words.now) c.in-Some.command d c.in-Folder.place n seed c.one_command.ensures.one c.in-Some.ensures.says c.in-Folder.is makes)

pub returns-in-Folder-clause-no_folder : goal.returns-in-Folder-clause-no_folder
returns-in-Folder-clause-no_folder g c = λ never. absurd (never c.in-Some.command (c.in-Folder.place, c.in-Some.ensures.says, c.in-Folder.is))

pub returns-in-Folder-clause-no_script : goal.returns-in-Folder-clause-no_script
returns-in-Folder-clause-no_script g c = λ never. absurd (never c.in-Some.command (c.in-Folder.place, c.in-Some.ensures.says, c.in-Folder.is))

pub returns-in-Generated-clause-printed : goal.returns-in-Generated-clause-printed
returns-in-Generated-clause-printed g c =
    let folder = g.F.Folder.seen c.args.folder.now in
    let script = g.S.Source.seen c.args.script.now in
    made_up_leaves (map string_bytes c.args.words.now) (outside folder script (g.K.Sink.seen c.args.out.now)) (outside folder script (g.K.Sink.seen c.run_made_up.new.out))
    c.run_made_up.new.kept c.in-Some.command c.in-Generated.modules c.in-Generated.seed c.run_made_up.result (c.in-Some.ensures.says, c.in-Generated.is) c.each_edit_has_sizes.ensures (g.met.F.Folder.bounded c.args.folder.now) refl
    c.run_made_up.ensures.leaves

pub returns-in_default-clause-lanes : goal.returns-in_default-clause-lanes
returns-in_default-clause-lanes g c = no_lanes_meant (map string_bytes c.args.words.now) c.args.kept.now c.requires

pub returns-in-Folder-clause-lanes : goal.returns-in-Folder-clause-lanes
returns-in-Folder-clause-lanes g c =
    lanes_meant (map string_bytes c.args.words.now) c.in-Some.command c.run_folder.new.kept c.one_command.ensures.one c.in-Some.ensures.says c.run_folder.ensures.lanes

pub returns-in-Generated-clause-lanes : goal.returns-in-Generated-clause-lanes
returns-in-Generated-clause-lanes g c =
    lanes_meant (map string_bytes c.args.words.now) c.in-Some.command c.run_made_up.new.kept c.one_command.ensures.one c.in-Some.ensures.says c.run_made_up.ensures.lanes

use Rattle.std.proofs.Common.{Bool, Option, vec_len, slice_set, ap, sym, ◌∙◌, refl, arith}
use Rattle.std.proofs.lemmas.Option.{slice_get_read}
use Rattle.type_values.specs.declared.types.FlowType.{FlowType}
use Rattle.scopes.specs.Rows.{declared_row}
use Rattle.scopes.proofs.Stacks.{set_changed, past_changed}
use Rattle.scopes.proofs.Kept.{earlier_is, past_of}
use Rattle.scopes.proofs.scope.exchange.Goals as goal

pub returns-in_default-clause-rows : goal.returns-in_default-clause-rows
returns-in_default-clause-rows c =
    sym (past_changed (declared_row c.args.is_read c.args.declared) c.args.rows.now.items c.args.at (omega (arith, past_of c.args.at (vec_len c.args.rows.now) c.in_default.ensures.variant.1, c.args.rows.now.ok.0)))

pub returns-clause-rows : goal.returns-clause-rows
returns-clause-rows c =
    ap (λ (b : Bool). slice_set c.args.rows.now.items c.args.at (declared_row b c.replace-2.new.dest c.in-Some.row.now)) c.replace.ensures.after
    ∙ ap (λ (d : Option FlowType). slice_set c.args.rows.now.items c.args.at (declared_row c.args.is_read d c.in-Some.row.now)) c.replace-2.ensures.after
    ∙ set_changed (declared_row c.args.is_read c.args.declared) c.args.rows.now.items c.args.at c.in-Some.row.now (omega (arith, c.in-Some.ensures.variant.0 refl, c.args.rows.now.ok.0)) c.in-Some.ensures.value

pub returns-clause-before : goal.returns-clause-before
returns-clause-before c = (
  c.in-Some.row.now,
  slice_get_read c.args.rows.now.items (vec_len c.args.rows.now) c.args.at c.in-Some.row.now (omega (arith, c.args.rows.now.ok.0)) (c.in-Some.ensures.variant.0 refl) c.in-Some.ensures.value,
  earlier_is c.args.at c.replace.result c.in-Some.row.now.binding.is_read c.replace-2.result c.in-Some.row.now.binding.declared c.replace.ensures.value c.replace-2.ensures.value,
)

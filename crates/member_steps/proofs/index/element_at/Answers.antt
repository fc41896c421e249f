use Rattle.std.proofs.Common.{◌≡◌, ℕ, ◌+◌, ◌<◌, Bool, false, List, length, drop, get_or, cond, Option, Some, sym, ap, ◌∙◌, arith}
use Rattle.std.specs.Fmt.{decimal}
use Rattle.std.specs.Str.{bytes_eq}
use Rattle.std.proofs.lemmas.List.{drop_more}
use Rattle.type_values.specs.declared.types.FlowType.{FlowType}
use Rattle.type_values.specs.declared.types.FlowType as made
use Rattle.typing.specs.Members.{element_at}
use Rattle.member_steps.proofs.index.element_at.Goals as goal

-- a place that doesn't have the spelling
element_next : (spelling : List ℕ) (all : List FlowType) (i : ℕ) (first : Option FlowType) → i < length all → false ≡ bytes_eq (decimal i) spelling →
    first ≡ element_at spelling i (drop i all) → first ≡ element_at spelling (i + 1) (drop (i + 1) all)
element_next spelling all i first within other so_far =
    so_far ∙ ap (λ (l : List FlowType). element_at spelling i l) (drop_more all i made.Any within)
    ∙ ap (λ (b : Bool). cond b (Some (get_or all i made.Any)) (element_at spelling (i + 1) (drop (i + 1) all))) (sym other)

pub loop-i-preserved : goal.loop-i-preserved
loop-i-preserved c = element_next c.args.spelling.now c.args.all.now c.loop-i.i (element_at c.args.spelling.now 0 c.args.all.now) (omega arith) c.if-spells.ensures c.loop-i.invariant

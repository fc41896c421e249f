use Rattle.std.proofs.Common.{List, sym, ap, ◌∙◌, subst, map, arith, Some}
use Rattle.chain_ends.specs.declared.links.End.{End}
use Rattle.chain_ends.specs.Following.{AreEnds}
use Rattle.chain_ends.specs.Walking.{end_marked}
use Rattle.chain_ends.proofs.Walks.{all_ends, fits_most}
use Rattle.chain_ends.proofs.walking.ends_of.Goals as goal

pub returns : goal.returns
returns c =
    subst (λ (l : List End). AreEnds c.args.links.now l) (sym (c.in_ok-ends.ensures ∙ ap (map (λ mark. end_marked (Some mark))) c.as_slice.ensures.value))
    (all_ends c.args.links.now c.in_ok-marks.marks.items c.in_ok-marks.ensures.walk c.in_ok-marks.ensures.begun (fits_most _ (omega (arith, c.in_ok-marks.marks.small, c.in_ok-marks.ensures.walk.len))))

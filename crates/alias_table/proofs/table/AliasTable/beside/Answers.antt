use Rattle.std.proofs.Common.{refl, sym, subst, List}
use Rattle.alias_table.specs.Aliases.{Row}
use Rattle.alias_table.specs.Marks.{marked_in}
use Rattle.alias_table.specs.Splitting.{AreApart}
use Rattle.alias_table.proofs.Beside.{are_marked, right_marked}
use Rattle.alias_table.proofs.table.AliasTable.beside.Goals as goal

pub invariant_of-result : goal.invariant_of-result
invariant_of-result c =
    let own = c.in_ok-own.own in
    let others = c.args.others in
    let apart = subst (λ (l : List Row). AreApart l others.rows) (sym c.in_ok-own.ensures) c.requires.apart in
    record {
      plain = refl;
      marked = are_marked own.rows others.rows apart c.requires.within (marked_in own) (marked_in others) own.marked own.right others.marked others.right;
    }

pub returns-clause-marks : goal.returns-clause-marks
returns-clause-marks c =
    let own = c.in_ok-own.own in
    let others = c.args.others in
    let apart = subst (λ (l : List Row). AreApart l others.rows) (sym c.in_ok-own.ensures) c.requires.apart in
    λ key. (
      right_marked own.rows others.rows apart c.requires.within (marked_in own) (marked_in others) own.marked own.right others.marked others.right key,
      are_marked own.rows others.rows apart c.requires.within (marked_in own) (marked_in others) own.marked own.right others.marked others.right key,
    )

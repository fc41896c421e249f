-- Behind the last wave all signatures are made.
use Rattle.std.proofs.Common.{◌≡◌, Bool, true, false, List, length, Option, refl, sym, ◌∙◌, arith}
use Rattle.heap_core.specs.Meaning.{names}
use Rattle.check_values.specs.declared.signatures.Sig.{Sig}
use Rattle.check_phases.specs.Merging.{IsMade}
use Rattle.check_phases.specs.declared.merging.Sources.{Sources}
use Rattle.check_phases.proofs.Lists.{within_there}
use Rattle.check_phases.proofs.Waves.{named_has, has_named, all_merged}
use Rattle.recheck_merging.specs.Plans.{IsPlan}
use Rattle.recheck_merging.specs.Merging.{AreMergedTo, IsFilled, WavesMakeAll}
use Rattle.recheck_merging.specs.declared.planning.MergePlan.{MergePlan}
use Rattle.recheck_merging.proofs.Groups.{grouped, waved, many_inner}

filled : (s : Sources) (p : MergePlan) (made : List (Option Sig)) → IsPlan s p → AreMergedTo s p (length p.waves) made → IsFilled made
filled s p made plan merged x low = go (names p.merged x) refl
  where
    go : (b : Bool) → names p.merged x ≡ b → IsMade made x
    go false outside = merged.kept x (let many = merged.right.many in omega arith) (λ has. let z : false ≡ true = sym outside ∙ has_named p.merged x has in cc)
    go true among =
        let i = named_has p.merged x among in
        let k = (grouped s p plan).whole i.0 (let small = within_there p.merged i.0 x i.1 in let many = many_inner s p plan in omega arith) in
        let w = (waved s p plan).whole k.0 (within_there p.components k.0 k.1.0 k.1.1) in
        merged.before w.0 k.0 x (within_there p.waves w.0 w.1.0 w.1.1) w.1 (i.0, k.1, i.1)

pub waves_make_all : WavesMakeAll
waves_make_all s p made sources plan merged = (filled s p made plan merged, λ sigs is. all_merged s made sigs merged.right (sym is))

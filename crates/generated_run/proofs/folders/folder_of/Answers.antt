use Rattle.std.proofs.Common.{rules, sym, subst}
use Rattle.std.specs.Cmp.Lexicographic.{nat_list_cmp_total}
use Rattle.std.specs.List.Sorted.{IsSortedBy, IsPermutation}
use Rattle.std.proofs.lemmas.Bool.{false≢true}
use Rattle.std.proofs.lemmas.List.Sorted.{ranks_by, answers_always}
use Rattle.flow_base.specs.Program.{Bytes, Program, IsRising, paths_of}
use Rattle.generated_run.proofs.InOrder.{precedes, sorted_rises}
use Rattle.generated_run.proofs.folders.folder_of.Goals as goal

pub unreachable-requires : goal.unreachable-requires
unreachable-requires c =
    let sorted : IsSortedBy precedes c.sort_by.new.self.items =
    c.in_ok-sort_by.ensures.sorted precedes (ranks_by nat_list_cmp_total (λ (row : Bytes × Bytes). row.0)) (answers_always _ _ _ (λ f a r g h. search rules)) in
    let moved : IsPermutation c.args.modules c.sort_by.new.self.items = subst (λ (all : Program). IsPermutation all c.sort_by.new.self.items) c.into_vec-rows.ensures c.in_ok-sort_by.ensures.permutation in
    let rising = sorted_rises c.args.modules c.sort_by.new.self.items c.requires moved sorted in
    false≢true (c.in-None.ensures.rising.1 (subst (λ (rows : Program). IsRising (paths_of rows)) (sym c.from_vec.ensures) rising))

use Rattle.std.proofs.Common.{ℕ, length, subst}
use Rattle.moved_paths.specs.Flags.{AreMet}
use Rattle.moved_paths.proofs.Beyond.{all_moved}
use Rattle.moved_paths.proofs.moving.moved_paths.Goals as goal

pub returns : goal.returns
returns c =
    all_moved c.args.old.now c.args.new.now c.args.from.now c.in_ok-there.there.items c.in_ok-met.met.items c.as_slice-2.result.now c.as_slice-4.result.now c.as_slice-3.result.now c.as_slice.result.now (record { came = c.in_ok-came.came; went = c.in_ok-went.went })
    c.requires.old c.requires.new c.requires.from c.in_ok-there.ensures c.as_slice-2.ensures.value c.as_slice.ensures c.in_ok-came.ensures (subst (λ (n : ℕ). AreMet c.args.from.now n (length c.args.from.now) c.in_ok-met.met.items) c.len.ensures c.in_ok-met.ensures)
    c.as_slice-4.ensures.value c.as_slice-3.ensures c.in_ok-went.ensures

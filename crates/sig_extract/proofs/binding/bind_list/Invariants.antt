use Rattle.std.proofs.Common.{◌≡◌, ◌++◌, take}
use Rattle.std.specs.List.{flat_map}
use Rattle.js_tree.specs.View.{imported_view}
use Rattle.local_signatures.specs.Scope.{bound_imported}
use Rattle.named_rows.specs.Seen.{seen}
use Rattle.sig_extract.specs.Seen.{binding_view}
use Rattle.sig_extract.proofs.binding.bind_list.Given as goal

abbrev pub invariant-loop-i : goal.invariant-loop-i
invariant-loop-i l = seen binding_view l.rows.items ≡ seen binding_view l.fn.rows.items ++ flat_map (λ n. bound_imported l.is_type l.specifier (imported_view n)) (take l.i l.names)

use Rattle.std.proofs.Common.{◌≡◌, ◌++◌, take}
use Rattle.std.specs.List.{flat_map}
use Rattle.named_rows.specs.Seen.{seen}
use Rattle.sig_extract.specs.Seen.{binding_view, listed, rows_told, told_there}
use Rattle.sig_extract.proofs.exporting.tell_names.Given as goal

abbrev pub invariant-loop-i : goal.invariant-loop-i
invariant-loop-i l =
    rows_told (seen binding_view l.scope.rows.items) l.exports.items
    ≡ rows_told (seen binding_view l.scope.rows.items) l.fn.exports.items ++ flat_map (listed (told_there (seen binding_view l.scope.rows.items) l.is_type l.specifier)) (take l.i l.names)

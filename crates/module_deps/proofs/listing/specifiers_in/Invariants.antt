use Rattle.std.proofs.Common.{◌≡◌, map, take}
use Rattle.std.specs.List.{flat_map}
use Rattle.js_tree.specs.View.{item_view}
use Rattle.module_resolution.specs.Dependencies.{specifiers_of}
use Rattle.module_deps.proofs.listing.specifiers_in.Given as goal

abbrev pub invariant-loop-i : goal.invariant-loop-i
invariant-loop-i l = map (λ text. text.now) l.found.items ≡ flat_map (λ item. specifiers_of (item_view item)) (take l.i l.items)

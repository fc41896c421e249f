use Rattle.std.proofs.Common.{rules}
use Rattle.std.specs.Ordering.{nat_cmp}
use Rattle.std.specs.Cmp.Lexicographic.{slice_cmp}
use Rattle.std.proofs.lemmas.Fn.{always_returns_same}
use Rattle.asked_exports.proofs.Found.{searched}
use Rattle.asked_exports.proofs.cutting.place_of.Goals as goal

pub returns : goal.returns
returns c =
    let facts = c.binary_search_by.ensures in
    let place = facts.position (λ row. slice_cmp nat_cmp row.0 c.args.name.now) (always_returns_same _ _ _ (λ a r g called. (search rules, search rules))) in
    let there = searched c.args.exports.now c.requires c.args.name.now c.binary_search_by.result facts.bound place in
    rw c.ok.ensures.value there

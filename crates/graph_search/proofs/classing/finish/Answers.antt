use Rattle.std.proofs.Common.{◌<◌, ℕ, true, false, List, length, sym, ◌∙◌, arith, subst}
use Rattle.graph_search.specs.Searching.{Marks, Writes, PutsBack, IsBlank}
use Rattle.graph_search.proofs.Lists.{get_index}
use Rattle.graph_search.proofs.Searches.{found_small, back_within}
use Rattle.graph_search.proofs.Pivots.{after_half, after_blank, after_gone, after_less}
use Rattle.graph_search.proofs.classing.finish.Goals as goal

pub search-requires-clause-edges : goal.search-requires-clause-edges
search-requires-clause-edges c = back_within c.args.edges.now c.args.back.now c.requires.reversed

pub mark_all-requires : goal.mark_all-requires
mark_all-requires c = found_small c.in_ok-around.around c.as_slice.result.now (length c.args.inside.now) c.in_ok-around.ensures c.as_slice.ensures (c.requires.half.left_len ∙ sym c.requires.blank.len)

pub write_all-requires : goal.write_all-requires
write_all-requires c = found_small c.in_ok-component.component c.as_slice-2.result.now (length c.args.classes.now) c.in_ok-component.ensures c.as_slice-2.ensures (c.mark_all.ensures.len ∙ c.requires.blank.len ∙ sym c.requires.half.classes_len)

pub put_back-requires-clause-left : goal.put_back-requires-clause-left
put_back-requires-clause-left c = found_small c.in_ok-around.around c.as_slice-3.result.now (length c.search.new.opened) c.in_ok-around.ensures c.as_slice-3.ensures (sym c.in_ok-around.ensures.len)

pub put_back-requires-clause-inside : goal.put_back-requires-clause-inside
put_back-requires-clause-inside c = found_small c.in_ok-around.around c.as_slice-3.result.now (length c.search-2.new.opened) c.in_ok-around.ensures c.as_slice-3.ensures
    (c.requires.half.left_len ∙ sym c.requires.blank.len ∙ sym c.mark_all.ensures.len ∙ sym c.in_ok-component.ensures.len)

pub returns : goal.returns
returns c =
    let small : c.args.p < length c.args.left.now = omega (arith, c.requires.half.left_len) in
    let p_left = get_index c.args.left.now c.args.p false true small c.if-not-left-p.false in
    let enters = subst (λ (l : List ℕ). Marks l c.args.inside.now c.mark_all.new.marks) c.as_slice.ensures c.mark_all.ensures in
    let written = subst (λ (l : List ℕ). Writes l c.args.p c.args.classes.now c.write_all.new.numbers) c.as_slice-2.ensures c.write_all.ensures in
    let puts = subst (λ (l : List ℕ). PutsBack l c.search.new.opened c.search-2.new.opened c.put_back.new.left c.put_back.new.inside) c.as_slice-3.ensures c.put_back.ensures in
    record {
      half = after_half c.args.edges.now c.args.back.now c.args.left.now c.search.new.opened c.args.inside.now c.mark_all.new.marks c.search-2.new.opened c.put_back.new.left c.put_back.new.inside c.args.classes.now c.write_all.new.numbers
          c.in_ok-around.around c.in_ok-component.component c.args.p c.requires.half c.requires.reversed c.requires.blank.blank p_left c.in_ok-around.ensures enters c.in_ok-component.ensures written puts;
      blank = subst (λ (n : ℕ). IsBlank n c.put_back.new.inside) c.requires.blank.len (after_blank c.args.edges.now c.args.back.now c.args.left.now c.search.new.opened c.args.inside.now c.mark_all.new.marks c.search-2.new.opened c.put_back.new.left c.put_back.new.inside c.args.classes.now c.write_all.new.numbers
          c.in_ok-around.around c.in_ok-component.component c.args.p c.requires.half c.requires.reversed c.requires.blank.blank p_left c.in_ok-around.ensures enters c.in_ok-component.ensures written puts);
      gone = after_gone c.args.edges.now c.args.back.now c.args.left.now c.search.new.opened c.args.inside.now c.mark_all.new.marks c.search-2.new.opened c.put_back.new.left c.put_back.new.inside c.args.classes.now c.write_all.new.numbers
          c.in_ok-around.around c.in_ok-component.component c.args.p c.requires.half c.requires.reversed c.requires.blank.blank p_left c.in_ok-around.ensures enters c.in_ok-component.ensures written puts;
      less = after_less c.args.edges.now c.args.back.now c.args.left.now c.search.new.opened c.args.inside.now c.mark_all.new.marks c.search-2.new.opened c.put_back.new.left c.put_back.new.inside c.args.classes.now c.write_all.new.numbers
          c.in_ok-around.around c.in_ok-component.component c.args.p c.requires.half c.requires.reversed c.requires.blank.blank p_left c.in_ok-around.ensures enters c.in_ok-component.ensures written puts;
    }

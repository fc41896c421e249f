use Rattle.std.proofs.Common.{◌≡◌, ℕ, ◌+◌, true, false, List, [], ◌∷◌, ◌++◌, get_or, slice_get, refl, sym, ap, ◌∙◌, subst}
use Rattle.graph_search.specs.Grouping.{AreTaken}
use Rattle.graph_search.proofs.Lists.{get_index}
use Rattle.graph_search.proofs.Takes.{takes_skip, takes_one}
use Rattle.graph_search.proofs.grouping.take_list.Goals as goal

pub returns-then-not-begins_with : goal.returns-then-not-begins_with
returns-then-not-begins_with c =
    let key = get_or c.args.classes.now c.args.x 0 in
    let class = get_index c.args.classes.now c.args.x 0 key c.requires.small refl in
    let list = get_index c.args.lists.now key c.index-lists-classes.result c.index-lists-classes.result (c.requires.within c.args.x 0 c.requires.small) (sym c.index-lists-classes.is) in
    takes_skip c.args.classes.now c.args.lists.now c.args.x c.index-lists-classes.result c.args.all.now key class list
    (λ is. let both : false ≡ true = sym c.if-not-begins_with.true ∙ c.begins_with.ensures.1 (ap (λ (l : List ℕ). slice_get l 0) c.as_slice-members.ensures ∙ is) in cc) c.requires.taken

pub returns : goal.returns
returns c =
    let key = get_or c.args.classes.now c.args.x 0 in
    let class = get_index c.args.classes.now c.args.x 0 key c.requires.small refl in
    let list = get_index c.args.lists.now key c.index-lists-classes.result c.index-lists-classes.result (c.requires.within c.args.x 0 c.requires.small) (sym c.index-lists-classes.is) in
    let first = ap (λ (l : List ℕ). slice_get l 0) (sym c.as_slice-members.ensures) ∙ c.begins_with.ensures.0 c.if-not-begins_with.false in
    let pushed = c.in_ok-push.ensures.ok ∙ ap (λ (m : List ℕ). c.args.all.now ++ m ∷ []) (c.in_ok-from_slice.ensures ∙ c.as_slice-members.ensures) in
    subst (λ (l : List (List ℕ)). AreTaken c.args.classes.now c.args.lists.now (c.args.x + 1) l) (sym pushed)
    (takes_one c.args.classes.now c.args.lists.now c.args.x c.index-lists-classes.result c.args.all.now (key, class, list, first) c.requires.taken)

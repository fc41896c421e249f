use Rattle.std.proofs.Common.{ℕ, ◌≡◌, ◌<◌, ◌≤◌, List, true, false, length, get_or, slice_get, sym, ap, ◌∙◌, arith, length-set}
use Rattle.std.proofs.lemmas.Option.{slice_get-get_or}
use Rattle.entity_heap.specs.Plans.{new_words}
use Rattle.entity_heap.proofs.Parts.{get_any, words_moved, words_stay, all_false}
use Rattle.entity_heap.proofs.Listed.{ahead_less, ahead_same, none_ahead}
use Rattle.entity_heap.proofs.heap.parts.renew.Goals as goal
use Rattle.entity_heap.proofs.heap.parts.renew.Goals.{then-index, else-index}

pub loop-e-preserved : goal.loop-e-preserved
loop-e-preserved c =
    let inv = c.loop-e.invariant in let bs = c.loop-e.staged.items in let ws = c.loop-e.words.items in let ks = c.deref-e-items.result.now in let i : ℕ = c.loop-e.e-index in let e : ℕ = get_or ks i 0 in
    let here : i < length ks = omega arith in let named = slice_get-get_or ks i 0 here in
    let bound : e < length c.args.words.now.items = c.requires.within i e (ap (λ (l : List ℕ). slice_get l i) (sym c.deref-e-items.ensures.value) ∙ named) in
    let m = inv.many in let n = inv.long in let r = c.requires.lengths in
    let inside : e < length bs = omega arith in let inside' : e < length ws = omega arith in
    let at : get_or bs e false ≡ c.index.result.now = get_any bs e false c.index.result.now inside ∙ sym c.index.ensures in
    elim c.if-index.branch [
      | then-index w ↦ let ss = ap (λ v. v.items) w.staged-is in let vs = ap (λ v. v.items) w.words-is in record {
        many = ap length ss ∙ (length-set bs e false ∙ inv.many);
        long = ap length vs ∙ (length-set ws e w.staged_word.result ∙ inv.long);
        words = (λ j. new_words c.args.version (ss j) (vs j)) ∙ (words_moved c.args.version bs ws e w.staged_word.result (at ∙ w.if-index.true) inside'
            (w.staged_word.ensures ∙ ap (Rattle.entity_heap.specs.Rule.word_for c.args.version true) (w.index-then-index.ensures ∙ get_any ws e w.index-then-index.result.now 0 inside')) ∙ inv.words);
        ahead = λ k up. ahead_less bs ks i e named inv.ahead k (ap (λ bs'. get_or bs' k false) (sym ss) ∙ up);
      }
      | else-index w ↦ let ss = ap (λ v. v.items) w.staged-is in let vs = ap (λ v. v.items) w.words-is in record {
        many = ap length ss ∙ inv.many;
        long = ap length vs ∙ inv.long;
        words = (λ j. new_words c.args.version (ss j) (vs j)) ∙ inv.words;
        ahead = λ k up. ahead_same bs ks i e named (at ∙ w.if-index.false) inv.ahead k (ap (λ bs'. get_or bs' k false) (sym ss) ∙ up);
      }
    ]

pub returns-clause-words : goal.returns-clause-words
returns-clause-words c =
    let inv = c.loop-e.invariant in let ks = c.deref-e-items.result.now in let i : ℕ = c.loop-e.e-index in let past : length ks ≤ i = omega arith in
    sym (words_stay c.args.version c.loop-e.staged.items c.loop-e.words.items (λ k _. none_ahead c.loop-e.staged.items ks i past inv.ahead k)) ∙ inv.words

pub returns-clause-staged : goal.returns-clause-staged
returns-clause-staged c =
    let inv = c.loop-e.invariant in let ks = c.deref-e-items.result.now in let i : ℕ = c.loop-e.e-index in let past : length ks ≤ i = omega arith in
    all_false c.loop-e.staged.items c.args.staged.now.items inv.many (λ k _. none_ahead c.loop-e.staged.items ks i past inv.ahead k)

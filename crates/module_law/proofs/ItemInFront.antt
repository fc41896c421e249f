-- Two items that stand in front of one list of tokens are one.
use Rattle.std.proofs.Common.{◌≡◌, sym, ◌∙◌, ap, ℕ, ◌≤◌, arith, [], ◌∷◌}
use Rattle.js_grammar.specs.TypeSpelling.{Tokens}
use Rattle.js_grammar.specs.Items.{Item, no_item, more_item, spell_item, stop_item, FitsItem}
use Rattle.js_grammar.proofs.Front.{f_item}
use Rattle.code_law.specs.Frames.{items_start}
use Rattle.code_law.specs.Machine.{whole_items, run}
use Rattle.module_law.specs.Items.{SameFrontSameItem}
use Rattle.code_law.proofs.Modules.{c_item}
use Rattle.module_law.proofs.Growing.{one_more}
use Rattle.code_law.proofs.InFront.{shorter, Any}

one_item : (a b : Item) → whole_items (more_item no_item a) [] ≡ whole_items (more_item no_item b) [] → a ≡ b
one_item a b e = cc

-- an item in front of another one is that one: behind it a further item would begin
item_in_front : (i : ℕ) (a b : Item) → FitsItem a i → FitsItem b i → (d : Tokens) → spell_item b [] ≡ spell_item a d → a ≡ b
item_in_front i a b h j d e = by d (sym (c_item a i h [] no_item d) ∙ ap (run i [] (items_start no_item)) (sym e) ∙ c_item b i j [] no_item [])
  where
    by : (d : Tokens) → run (stop_item a i) [] (items_start (more_item no_item a)) d ≡ whole_items (more_item no_item b) [] → a ≡ b
    by [] q = one_item a b q
    by (x ∷ d) q = absurd (let p : 2 ≤ 1 = one_more x d (stop_item a i) [] (more_item no_item a) (more_item no_item b) q in omega arith)

pub same_item : SameFrontSameItem
same_item i a b h j m n e = shorter spell_item stop_item f_item (λ x. FitsItem x i) Any (λ d n u. tt) (λ a b h j d u e. item_in_front i a b h j d e) a b h j m n e tt tt

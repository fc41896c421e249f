-- The open entries are a stack.
use Rattle.std.proofs.Common.{◌≡◌, refl, ◌∙◌, ◌+◌, arith, List, [], ◌∷◌, ◌++◌, Bool, length}
use Rattle.js_grammar.specs.Nesting.{Opened}
use Rattle.type_parser.specs.Nests.{piled, opened_view}

piled-push : (o : Opened) (bs : List Bool) (b : Bool) → piled o (bs ++ b ∷ []) ≡ b ∷ piled o bs
piled-push o [] b = refl
piled-push o (c ∷ bs) b = piled-push (c ∷ o) bs b

pub opened-push : (bs : List Bool) (b : Bool) → opened_view (bs ++ b ∷ []) ≡ b ∷ opened_view bs
unfolding opened_view
opened-push bs b = piled-push [] bs b

pub opened-empty : opened_view [] ≡ []
unfolding opened_view
opened-empty = refl

piled-length : (o : Opened) (bs : List Bool) → length (piled o bs) ≡ length o + length bs
piled-length o [] = omega arith
piled-length o (b ∷ bs) = piled-length (b ∷ o) bs ∙ omega arith

pub opened-length : (bs : List Bool) → length (opened_view bs) ≡ length bs
unfolding opened_view
opened-length bs = piled-length [] bs ∙ omega arith

pub ruleset nests = (opened-push, opened-empty)

pub ruleset heights = (opened-length, nests)

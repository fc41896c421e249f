-- The lists of a type grow at their end; here they are spelled in order.
use Rattle.std.proofs.Common.{◌≡◌, refl, arith, ℕ, ◌+◌, ◌<◌, List, ◌∷◌, map, length, drop, drop-cons}
use Rattle.js_token.specs.declared.token.TokenKind.TheVariants.{Punct}
use Rattle.js_token.specs.declared.punct.Punct.TheVariants.{OpenBracket, CloseBracket, Comma, Question, Bar}
use Rattle.js_grammar.specs.Types.{no_place, no_pre, no_param, no_type, no_prop}
use Rattle.js_grammar.specs.TypeSpelling.{Tokens, marks, brackets, spell, spell_pres, spell_barred, spell_pre, spell_params, spell_begun, spell_param, spell_types, spell_elements, spell_props, spell_rows, spell_prop}
use Rattle.type_tree.specs.View.{type_view, pre_view, param_view, prop_view, places_view, pres_view, params_view, types_view, props_view, places_from, pres_from, params_from, types_from, props_from}
use Rattle.type_tree.specs.declared.types.TypeTree.{TypeTree}
use Rattle.type_tree.specs.declared.types.PreTree.{PreTree}
use Rattle.type_tree.specs.declared.types.ParamTree.{ParamTree}
use Rattle.type_tree.specs.declared.types.PropTree.{PropTree}
use Rattle.js_tree.proofs.Lists.{each, each_in_order, listed, listed_in_order}

abbrev pub mark : ℕ → Tokens → Tokens
mark p l = Punct Question ∷ l

-- A mark's place is in no token, so the code doesn't read it.
pub marks_next : (ps : List ℕ) (i : ℕ) (l : Tokens) → i < length ps → each mark (drop i ps) l ≡ Punct Question ∷ each mark (drop (i + 1) ps) l
marks_next ps i l h = grind (arith, drop-cons ps i 0 h)

pub marks_in_order : (ps : List ℕ) (l : Tokens) → each mark ps l ≡ marks (places_view ps) l
unfolding places_view
marks_in_order = each_in_order places_from (λ acc. refl) (λ acc x xs. refl) no_place marks (λ l. refl) mark (λ acc x l. refl)

abbrev pub bracket : ℕ → Tokens → Tokens
bracket p l = Punct OpenBracket ∷ Punct CloseBracket ∷ l

pub brackets_next : (ps : List ℕ) (i : ℕ) (l : Tokens) → i < length ps → each bracket (drop i ps) l ≡ Punct OpenBracket ∷ Punct CloseBracket ∷ each bracket (drop (i + 1) ps) l
brackets_next ps i l h = grind (arith, drop-cons ps i 0 h)

pub brackets_in_order : (ps : List ℕ) (l : Tokens) → each bracket ps l ≡ brackets (places_view ps) l
unfolding places_view
brackets_in_order = each_in_order places_from (λ acc. refl) (λ acc x xs. refl) no_place brackets (λ l. refl) bracket (λ acc x l. refl)

abbrev pub member : PreTree → Tokens → Tokens
member p = spell_pre (pre_view p)

pub pres_in_order : (ps : List PreTree) (l : Tokens) → listed (Punct Bar) member ps l ≡ spell_pres (pres_view ps) l
unfolding pres_view
pres_in_order = listed_in_order (λ acc xs. pres_from acc (map pre_view xs)) (λ acc. refl) (λ acc x xs. refl) no_pre spell_pres (λ l. refl) member (Punct Bar) spell_barred (λ l. refl) (λ acc x l. refl) (λ acc x l. refl)

abbrev pub param : ParamTree → Tokens → Tokens
param p = spell_param (param_view p)

pub params_in_order : (ps : List ParamTree) (l : Tokens) → listed (Punct Comma) param ps l ≡ spell_params (params_view ps) l
unfolding params_view
params_in_order = listed_in_order (λ acc xs. params_from acc (map param_view xs)) (λ acc. refl) (λ acc x xs. refl) no_param spell_params (λ l. refl) param (Punct Comma) spell_begun (λ l. refl) (λ acc x l. refl) (λ acc x l. refl)

abbrev pub element : TypeTree → Tokens → Tokens
element t = spell (type_view t)

pub types_in_order : (ts : List TypeTree) (l : Tokens) → listed (Punct Comma) element ts l ≡ spell_types (types_view ts) l
unfolding types_view
types_in_order = listed_in_order (λ acc xs. types_from acc (map type_view xs)) (λ acc. refl) (λ acc x xs. refl) no_type spell_types (λ l. refl) element (Punct Comma) spell_elements (λ l. refl) (λ acc x l. refl) (λ acc x l. refl)

abbrev pub property : PropTree → Tokens → Tokens
property p = spell_prop (prop_view p)

pub props_in_order : (ps : List PropTree) (l : Tokens) → listed (Punct Comma) property ps l ≡ spell_props (props_view ps) l
unfolding props_view
props_in_order = listed_in_order (λ acc xs. props_from acc (map prop_view xs)) (λ acc. refl) (λ acc x xs. refl) no_prop spell_props (λ l. refl) property (Punct Comma) spell_rows (λ l. refl) (λ acc x l. refl) (λ acc x l. refl)

abbrev pub row : PropTree → Tokens → Tokens
row p l = spell_prop (prop_view p) (Punct Comma ∷ l)

pub rows_in_order : (ps : List PropTree) (l : Tokens) → each row ps l ≡ spell_rows (props_view ps) l
unfolding props_view
rows_in_order = each_in_order (λ acc xs. props_from acc (map prop_view xs)) (λ acc. refl) (λ acc x xs. refl) no_prop spell_rows (λ l. refl) row (λ acc x l. refl)

pub ruleset type_lists = (marks_in_order, marks_next, brackets_in_order, brackets_next, pres_in_order, params_in_order, types_in_order, props_in_order, rows_in_order)

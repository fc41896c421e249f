-- The lists of a tree grow at their end; here they are read in order.
use Rattle.std.proofs.Common.{◌≡◌, ℕ, ◌+◌, ◌<◌, ◌≤◌, Bool, true, List, [], ◌∷◌, ◌++◌, map, length, take, get_or, cond, bytes_eq, Some, None, refl, sym, ap, ◌∙◌, subst}
use Rattle.std.specs.BTreeSet.{BTreeSet, contains}
use Rattle.std.specs.List.{list_any}
use Rattle.std.specs.Ordering.{nat_cmp, is_eq}
use Rattle.std.specs.Cmp.Lexicographic.{slice_cmp}
use Rattle.std.proofs.lemmas.List.{take_all, take_more}
use Rattle.std.proofs.lemmas.Map.Text.{is_eq-slice_cmp}
use Rattle.check_values.specs.Rows.{Bytes}
use Rattle.check_values.specs.declared.codes.Code.{Code}
use Rattle.named_rows.proofs.Lists.{among_last, bytes_turned}
use Rattle.js_grammar.specs.Types.{Pres, no_pre, more_pre, Params, no_param, more_param, Types, no_type, more_type, Props, no_prop, more_prop}
use Rattle.type_tree.specs.View.{type_view, pre_view, param_view, prop_view, pres_view, params_view, types_view, props_view, pres_from, params_from, types_from, props_from}
use Rattle.type_tree.specs.declared.types.TypeTree.{TypeTree}
use Rattle.type_tree.specs.declared.types.PreTree.{PreTree}
use Rattle.type_tree.specs.declared.types.ParamTree.{ParamTree}
use Rattle.type_tree.specs.declared.types.PropTree.{PropTree}
use Rattle.typing.specs.States.{World, Notes, TypeMeaning, a_type, no_type_of, fault_at, name_fault}
use Rattle.typing.specs.TypeFaults.{meaning_fault, members_read, member_read, types_read, type_read, params_read, param_read, props_read, prop_read, keys_of_props, key_of_prop}
use Rattle.check_world.specs.View.{fault_code}
use Rattle.type_reads.specs.Keys.{HasAll}

one_more : {X : Type 0} (xs : List X) (i : ℕ) (x : X) → i < length xs → x ≡ get_or xs i x → take (i + 1) xs ≡ take i xs ++ x ∷ []
one_more {X} xs i x within at = take_more xs i x within ∙ ap (λ (y : X). take i xs ++ y ∷ []) (sym at)

-- ---- any list that grows at its end

module _ {X V L : Type 0} (from : L → List V → L) (more : L → V → L) (view : X → V) (nil : (acc : L) → from acc [] ≡ acc) (cons : (acc : L) (v : V) (vs : List V) → from acc (v ∷ vs) ≡ from (more acc v) vs) where
  last_one : (acc : L) (xs : List X) (x : X) → from acc (map view (xs ++ x ∷ [])) ≡ more (from acc (map view xs)) (view x)
  last_one acc [] x = cons acc (view x) [] ∙ nil (more acc (view x)) ∙ ap (λ (l : L). more l (view x)) (sym (nil acc))
  last_one acc (y ∷ xs) x = cons acc (view y) (map view (xs ++ x ∷ [])) ∙ last_one (more acc (view y)) xs x ∙ ap (λ (l : L). more l (view x)) (sym (cons acc (view y) (map view xs)))

  grown : (none : L) (xs : List X) (i : ℕ) (x : X) → i < length xs → x ≡ get_or xs i x → from none (map view (take (i + 1) xs)) ≡ more (from none (map view (take i xs))) (view x)
  grown none xs i x within at = ap (λ (l : List X). from none (map view l)) (one_more xs i x within at) ∙ last_one none (take i xs) x

  -- one element more is read
  read_next : (read : L → Notes → Notes) (step : V → Notes → Notes) → ((l : L) (v : V) (n : Notes) → read (more l v) n ≡ step v (read l n)) → (none : L) (xs : List X) (i : ℕ) (x : X) (first before after : Notes) → i < length xs → x ≡ get_or xs i x →
      after ≡ step (view x) before → before ≡ read (from none (map view (take i xs))) first → after ≡ read (from none (map view (take (i + 1) xs))) first
  read_next read step reads none xs i x first before after within at made so_far =
      made ∙ ap (step (view x)) so_far ∙ sym (reads (from none (map view (take i xs))) (view x) first) ∙ ap (λ (l : L). read l first) (sym (grown none xs i x within at))

-- all were read
read_all : {X L : Type 0} (listed : List X → L) (read : L → Notes → Notes) (xs : List X) (i : ℕ) (first after : Notes) → length xs ≤ i → after ≡ read (listed (take i xs)) first → after ≡ read (listed xs) first
read_all {X} listed read xs i first after long is = is ∙ ap (λ (l : List X). read (listed l) first) (take_all i xs long)

-- ---- members of a union

pub members_none : (w : World) (xs : List PreTree) (n : Notes) → n ≡ members_read w (pres_view (take 0 xs)) n
unfolding pres_view
members_none w xs n = refl

pub members_next : (w : World) (xs : List PreTree) (i : ℕ) (x : PreTree) (first before after : Notes) → i < length xs → x ≡ get_or xs i x → after ≡ member_read w (pre_view x) before →
    before ≡ members_read w (pres_view (take i xs)) first → after ≡ members_read w (pres_view (take (i + 1) xs)) first
unfolding pres_view
members_next w = read_next pres_from more_pre pre_view (λ acc. refl) (λ acc p ps. refl) (members_read w) (member_read w) (λ ps p n. refl) no_pre

pub members_all : (w : World) (xs : List PreTree) (i : ℕ) (first after : Notes) → length xs ≤ i → after ≡ members_read w (pres_view (take i xs)) first → after ≡ members_read w (pres_view xs) first
members_all w = read_all pres_view (members_read w)

-- ---- elements of a tuple

pub types_none : (w : World) (xs : List TypeTree) (n : Notes) → n ≡ types_read w (types_view (take 0 xs)) n
unfolding types_view
types_none w xs n = refl

pub types_next : (w : World) (xs : List TypeTree) (i : ℕ) (x : TypeTree) (first before after : Notes) → i < length xs → x ≡ get_or xs i x → after ≡ type_read w (type_view x) before →
    before ≡ types_read w (types_view (take i xs)) first → after ≡ types_read w (types_view (take (i + 1) xs)) first
unfolding types_view
types_next w = read_next types_from more_type type_view (λ acc. refl) (λ acc t ts. refl) (types_read w) (type_read w) (λ ts t n. refl) no_type

pub types_all : (w : World) (xs : List TypeTree) (i : ℕ) (first after : Notes) → length xs ≤ i → after ≡ types_read w (types_view (take i xs)) first → after ≡ types_read w (types_view xs) first
types_all w = read_all types_view (types_read w)

-- ---- parameters

pub params_none : (w : World) (xs : List ParamTree) (n : Notes) → n ≡ params_read w (params_view (take 0 xs)) n
unfolding params_view
params_none w xs n = refl

pub params_next : (w : World) (xs : List ParamTree) (i : ℕ) (x : ParamTree) (first before after : Notes) → i < length xs → x ≡ get_or xs i x → after ≡ param_read w (param_view x) before →
    before ≡ params_read w (params_view (take i xs)) first → after ≡ params_read w (params_view (take (i + 1) xs)) first
unfolding params_view
params_next w = read_next params_from more_param param_view (λ acc. refl) (λ acc p ps. refl) (params_read w) (param_read w) (λ ps p n. refl) no_param

pub params_all : (w : World) (xs : List ParamTree) (i : ℕ) (first after : Notes) → length xs ≤ i → after ≡ params_read w (params_view (take i xs)) first → after ≡ params_read w (params_view xs) first
params_all w = read_all params_view (params_read w)

-- ---- properties of an object

props_more : (xs : List PropTree) (i : ℕ) (x : PropTree) → i < length xs → x ≡ get_or xs i x → props_view (take (i + 1) xs) ≡ more_prop (props_view (take i xs)) (prop_view x)
unfolding props_view
props_more = grown props_from more_prop prop_view (λ acc. refl) (λ acc p ps. refl) no_prop

pub keys_none : (keys : BTreeSet Bytes) (xs : List PropTree) → keys.keys ≡ [] → HasAll keys (keys_of_props (props_view (take 0 xs)))
unfolding props_view
keys_none keys xs none_yet = record { has = λ q. ap (λ (l : List Bytes). list_any (λ k. is_eq (slice_cmp nat_cmp q k)) l) none_yet }

pub props_none : (w : World) (xs : List PropTree) (n : Notes) → n ≡ props_read w (props_view (take 0 xs)) n
unfolding props_view
props_none w xs n = refl

pub props_next : (w : World) (xs : List PropTree) (i : ℕ) (x : PropTree) (first before after : Notes) → i < length xs → x ≡ get_or xs i x →
    after ≡ prop_read w (keys_of_props (props_view (take i xs))) (prop_view x) before →
    before ≡ props_read w (props_view (take i xs)) first → after ≡ props_read w (props_view (take (i + 1) xs)) first
props_next w xs i x first before after within at made so_far =
    made ∙ ap (prop_read w (keys_of_props (props_view (take i xs))) (prop_view x)) so_far ∙ ap (λ (ps : Props). props_read w ps first) (sym (props_more xs i x within at))

pub props_all : (w : World) (xs : List PropTree) (i : ℕ) (first after : Notes) → length xs ≤ i → after ≡ props_read w (props_view (take i xs)) first → after ≡ props_read w (props_view xs) first
props_all w = read_all props_view (props_read w)

pub keys_next : (keys : BTreeSet Bytes) (xs : List PropTree) (i : ℕ) (x : PropTree) → i < length xs → x ≡ get_or xs i x →
    HasAll keys (keys_of_props (props_view (take i xs)) ++ key_of_prop (prop_view x) ∷ []) → HasAll keys (keys_of_props (props_view (take (i + 1) xs)))
keys_next keys xs i x within at told = subst (λ (ps : Props). HasAll keys (keys_of_props ps)) (sym (props_more xs i x within at)) told

-- ---- keys

-- one key more in the set
pub key_more : (keys keys' : BTreeSet Bytes) (before : List Bytes) (key : Bytes) → HasAll keys before →
    ((q : Bytes) → contains (slice_cmp nat_cmp) keys' q ≡ cond (is_eq (slice_cmp nat_cmp key q)) true (contains (slice_cmp nat_cmp) keys q)) → HasAll keys' (before ++ key ∷ [])
key_more keys keys' before key told adds = record {
  has = λ q.
      adds q ∙ ap (λ (b : Bool). cond b true (contains (slice_cmp nat_cmp) keys q)) (is_eq-slice_cmp key q ∙ bytes_turned key q)
      ∙ ap (λ (b : Bool). cond (bytes_eq q key) true b) (told.has q) ∙ sym (among_last before key q);
}

-- ---- what a name means

pub means_type : (w : World) (f t : ℕ) (name : Bytes) (meaning : TypeMeaning) (notes : Notes) → fault_code meaning ≡ None → notes ≡ meaning_fault w f t name meaning notes
means_type w f t name (a_type meant) notes e = refl
means_type w f t name (no_type_of code) notes e = absurd (cc)

pub means_none : (w : World) (f t : ℕ) (name : Bytes) (meaning : TypeMeaning) (code : Code) (notes : Notes) → fault_code meaning ≡ Some code → name_fault (fault_at w f t code name) notes ≡ meaning_fault w f t name meaning notes
means_none w f t name (a_type meant) code notes e = absurd (cc)
means_none w f t name (no_type_of other) code notes e = let same : other ≡ code = cc in ap (λ (c : Code). name_fault (fault_at w f t c name) notes) (sym same)

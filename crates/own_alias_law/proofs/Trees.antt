-- The type of a tree with its names replaced is the type of the tree by what these names are replaced by.
use Rattle.std.proofs.Common.{◌≡◌, Bool, true, false, cond, List, [], ◌∷◌, ◌++◌, map, refl, sym, ap, ap₂, ◌∙◌, unwrap_or}
use Rattle.std.proofs.lemmas.List.{map-append}
use Rattle.std.specs.List.{AllByRecursion, list_any}
use Rattle.std.specs.Prelude.{◌||◌, Some}
use Rattle.std.specs.Str.{bytes_eq}
use Rattle.check_values.specs.Rows.{Bytes, Rows, row_at}
use Rattle.js_grammar.specs.Types.{Places, no_place, more_place, Ty, ty, Pres, no_pre, more_pre, Pre, pre, Core, fun, post, Base, base, Form, str, num, null, void, truth, array, paren, tuple, object, Params, no_param, more_param, Param, plain, named, Types, no_type, more_type, Props, no_prop, more_prop, Prop, prop}
use Rattle.js_grammar.specs.Types as g
use Rattle.type_values.specs.declared.types.FlowType.{FlowType, map-FlowType}
use Rattle.type_values.specs.declared.types.FlowType as made
use Rattle.type_values.specs.declared.types.FlowProp.{FlowProp}
use Rattle.type_values.specs.declared.types.Param as value
use Rattle.type_values.specs.declared.types.FlowType.TheOpen as level
use Rattle.type_values.specs.declared.types.FlowType.TheViews.{roll-FlowType, rolls-Any, rolls-Mixed, rolls-Empty, rolls-Number, rolls-Str, rolls-Boolean, rolls-Null, rolls-Void, rolls-StrLit, rolls-NumLit, rolls-BoolLit}
use Rattle.type_values.specs.declared.types.FlowType.TheFolds.{fold-roll-FlowType}
use Rattle.type_names.specs.Names.{level_replaced, prop_replaced, param_replaced}
use Rattle.name_replacing.specs.Replacing.{by_word, type_by, prop_by, param_by}
use Rattle.name_replacing.proofs.Levels.{of_union, of_object, of_tuple, of_array, of_read_array, of_function, of_prop, of_param}
use Rattle.tree_types.specs.TreeTypes.{named_types, type_at, union_of, maybe, array_of, variance_of, key_text, is_exact, last_of_each, type_of, types_of_members, type_of_member, type_of_core, type_of_base, type_of_form, types_of, params_of, param_of, props_of, prop_of}

-- a type by its level
abbrev level_by : (Bytes → FlowType) → level.FlowType-F FlowType FlowProp value.Param → FlowType
level_by means z = level_replaced (by_word means) (map-FlowType FlowType FlowProp value.Param FlowType FlowProp value.Param (type_by means) (prop_by means) (param_by means) z)

module _ (means : Bytes → FlowType) where
  abbrev new : FlowType → FlowType
  new = type_by means

  -- a form without names
  still : (z : level.FlowType-F FlowType FlowProp value.Param) (t : FlowType) → roll-FlowType z ≡ t → level_by means z ≡ t → new t ≡ t
  still z t rolls stays = ap new (sym rolls) ∙ fold-roll-FlowType FlowType FlowProp value.Param (level_replaced (by_word means)) prop_replaced param_replaced z ∙ stays

  pub any_still : new made.Any ≡ made.Any
  any_still = still level.Any made.Any rolls-Any refl

  -- ---- lists of parts

  union_same : (ts : List FlowType) → union_of (map new ts) ≡ new (union_of ts)
  union_same [] = sym (of_union means [])
  union_same (t ∷ []) = refl
  union_same (t ∷ u ∷ ts) = sym (of_union means (t ∷ u ∷ ts))

  maybe_same : (marks : Places) (t : FlowType) → maybe marks (new t) ≡ new (maybe marks t)
  maybe_same no_place t = refl
  maybe_same (more_place marks place) t =
      let rest = maybe_same marks t in
      let first = still level.Null made.Null rolls-Null refl in
      let second = still level.Void made.Void rolls-Void refl in
      (λ j. made.Union (sym first j ∷ sym second j ∷ rest j ∷ [])) ∙ sym (of_union means (made.Null ∷ made.Void ∷ maybe marks t ∷ []))

  pairs_same : (pairs : Places) (t : FlowType) → array_of pairs (new t) ≡ new (array_of pairs t)
  pairs_same no_place t = refl
  pairs_same (more_place pairs place) t = ap made.Array (pairs_same pairs t) ∙ sym (of_array means (array_of pairs t))

  key_same : (p : FlowProp) → (prop_by means p).key ≡ p.key
  key_same p = ap (λ (q : FlowProp). q.key) (of_prop means p)

  any_same : (ps : List FlowProp) (k : Bytes) → list_any (λ later. bytes_eq later.key k) (map (prop_by means) ps) ≡ list_any (λ later. bytes_eq later.key k) ps
  any_same [] k = refl
  any_same (p ∷ ps) k = let first = key_same p in let rest = any_same ps k in λ j. bytes_eq (first j) k || rest j

  last_same : (ps : List FlowProp) → last_of_each (map (prop_by means) ps) ≡ map (prop_by means) (last_of_each ps)
  last_same [] = refl
  last_same (p ∷ ps) =
      ap (λ (k : Bytes). cond (list_any (λ later. bytes_eq later.key k) (map (prop_by means) ps)) (last_of_each (map (prop_by means) ps)) (prop_by means p ∷ last_of_each (map (prop_by means) ps))) (key_same p)
      ∙ ap (λ (b : Bool). cond b (last_of_each (map (prop_by means) ps)) (prop_by means p ∷ last_of_each (map (prop_by means) ps))) (any_same ps p.key)
      ∙ go (list_any (λ later. bytes_eq later.key p.key) ps) (last_same ps)
    where
      go : (b : Bool) → last_of_each (map (prop_by means) ps) ≡ map (prop_by means) (last_of_each ps) →
          cond b (last_of_each (map (prop_by means) ps)) (prop_by means p ∷ last_of_each (map (prop_by means) ps)) ≡ map (prop_by means) (cond b (last_of_each ps) (p ∷ last_of_each ps))
      go true rest = rest
      go false rest = ap (λ (l : List FlowProp). prop_by means p ∷ l) rest

  last_more : {X : Type 0} (f : X → X) (xs ys : List X) (x y : X) → xs ≡ map f ys → x ≡ f y → xs ++ (x ∷ []) ≡ map f (ys ++ (y ∷ []))
  last_more f xs ys x y same one = (λ j. same j ++ (one j ∷ [])) ∙ sym (map-append f ys (y ∷ []))

  -- ---- trees

  module _ (names : Bytes → FlowType) where
    abbrev renamed : Bytes → FlowType
    renamed name = new (names name)

    own_same : (rows : Rows FlowType) → AllByRecursion (λ (row : Bytes × FlowType). new row.1 ≡ row.1) rows → (word : Bytes) → unwrap_or (row_at rows word) (renamed word) ≡ new (unwrap_or (row_at rows word) (names word))
    own_same [] a word = refl
    own_same (row ∷ rows) a word = go (bytes_eq row.0 word) (own_same rows a.1 word)
      where
        go : (b : Bool) → unwrap_or (row_at rows word) (renamed word) ≡ new (unwrap_or (row_at rows word) (names word)) →
            unwrap_or (cond b (Some row.1) (row_at rows word)) (renamed word) ≡ new (unwrap_or (cond b (Some row.1) (row_at rows word)) (names word))
        go true rest = sym a.0
        go false rest = rest

    name_same : (word : Bytes) → type_at renamed word ≡ new (type_at names word)
    name_same =
        own_same named_types (
          any_still,
          (
            still level.Mixed made.Mixed rolls-Mixed refl,
            (
              still level.Empty made.Empty rolls-Empty refl,
              (
                still level.Number made.Number rolls-Number refl,
                (
                  still level.Str made.Str rolls-Str refl,
                  (still level.Boolean made.Boolean rolls-Boolean refl, tt),
                ),
              ),
            ),
          ),
        )

    mutual
      pub type_same : (t : Ty) → type_of renamed t ≡ new (type_of names t)
      type_same (ty first end lead members) = ap union_of (members_same members) ∙ union_same (types_of_members names members)

      members_same : (ps : Pres) → types_of_members renamed ps ≡ map new (types_of_members names ps)
      members_same no_pre = refl
      members_same (more_pre before last) =
          last_more new (types_of_members renamed before) (types_of_members names before) (type_of_member renamed last) (type_of_member names last) (members_same before) (member_same last)

      member_same : (p : Pre) → type_of_member renamed p ≡ new (type_of_member names p)
      member_same (pre first end marks core) = ap (maybe marks) (core_same core) ∙ maybe_same marks (type_of_core names core)

      core_same : (c : Core) → type_of_core renamed c ≡ new (type_of_core names c)
      core_same (fun first end params trailing result) = ap₂ made.Function (params_same params) (type_same result) ∙ sym (of_function means (params_of names params) (type_of names result))
      core_same (post first end b pairs) = ap (array_of pairs) (base_same b) ∙ pairs_same pairs (type_of_base names b)

      base_same : (b : Base) → type_of_base renamed b ≡ new (type_of_base names b)
      base_same (base first end form) = form_same form

      form_same : (form : Form) → type_of_form renamed form ≡ new (type_of_form names form)
      form_same (g.name word) = name_same word
      form_same (str text) = sym (still (level.StrLit text) (made.StrLit text) (rolls-StrLit text) refl)
      form_same (num digits) = sym (still (level.NumLit digits) (made.NumLit digits) (rolls-NumLit digits) refl)
      form_same null = sym (still level.Null made.Null rolls-Null refl)
      form_same void = sym (still level.Void made.Void rolls-Void refl)
      form_same (truth b) = sym (still (level.BoolLit b) (made.BoolLit b) (rolls-BoolLit b) refl)
      form_same (array false element) = ap made.Array (type_same element) ∙ sym (of_array means (type_of names element))
      form_same (array true element) = ap made.ReadArray (type_same element) ∙ sym (of_read_array means (type_of names element))
      form_same (paren inner) = type_same inner
      form_same (tuple elements trailing) = ap made.Tuple (types_same elements) ∙ sym (of_tuple means (types_of names elements))
      form_same (object props ending) =
          ap (λ (ps : List FlowProp). made.Object (is_exact ending) (last_of_each ps)) (props_same props) ∙ ap (made.Object (is_exact ending)) (last_same (props_of names props))
          ∙ sym (of_object means (is_exact ending) (last_of_each (props_of names props)))

      types_same : (ts : Types) → types_of renamed ts ≡ map new (types_of names ts)
      types_same no_type = refl
      types_same (more_type before last) = last_more new (types_of renamed before) (types_of names before) (type_of renamed last) (type_of names last) (types_same before) (type_same last)

      params_same : (ps : Params) → params_of renamed ps ≡ map (param_by means) (params_of names ps)
      params_same no_param = refl
      params_same (more_param before last) = last_more (param_by means) (params_of renamed before) (params_of names before) (param_of renamed last) (param_of names last) (params_same before) (param_same last)

      param_same : (p : Param) → param_of renamed p ≡ param_by means (param_of names p)
      param_same (plain t) = let inner = type_same t in (λ j. record { optional = false; ty = inner j }) ∙ sym (of_param means (param_of names (plain t)))
      param_same (named first end word optional t) = let inner = type_same t in (λ j. record { optional = optional; ty = inner j }) ∙ sym (of_param means (param_of names (named first end word optional t)))

      props_same : (ps : Props) → props_of renamed ps ≡ map (prop_by means) (props_of names ps)
      props_same no_prop = refl
      props_same (more_prop before last) = last_more (prop_by means) (props_of renamed before) (props_of names before) (prop_of renamed last) (prop_of names last) (props_same before) (prop_same last)

      prop_same : (p : Prop) → prop_of renamed p ≡ prop_by means (prop_of names p)
      prop_same (prop first end sign k optional t) =
          let inner = type_same t in
          (λ j. record { key = key_text k; variance = variance_of sign; optional = optional; ty = inner j }) ∙ sym (of_prop means (prop_of names (prop first end sign k optional t)))

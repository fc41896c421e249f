-- The first and the last place of each key.
use Rattle.std.proofs.Common.{◌≡◌, ℕ, Bool, true, false, not, ◌||◌, ◌&&◌, List, [], ◌∷◌, ◌++◌, Option, Some, None, cond, ltb, min, max, refl, sym, ap, ◌∙◌, subst, arith}
use Rattle.std.specs.Option.{is_some}
use Rattle.std.specs.List.{list_any}
use Rattle.std.specs.Str.{bytes_eq}
use Rattle.std.specs.BTreeMap.{BTreeMap, get, is_at}
use Rattle.std.specs.Map.{lookup}
use Rattle.std.specs.Ordering.{nat_cmp, is_eq}
use Rattle.std.proofs.lemmas.Map.Text.{is_eq-slice_cmp}
use Rattle.std.proofs.lemmas.List.{map_push}
use Rattle.std.specs.Cmp.Lexicographic.{slice_cmp, bytes_decides}
use Rattle.std.proofs.lemmas.List.Folds.{list_any-append}
use Rattle.std.proofs.lemmas.Bool.Decides.{nat_tests}
use Rattle.check_values.specs.Rows.{Bytes}
use Rattle.typing.specs.Objects as typing
use Rattle.literal_reads.specs.declared.entries.Entry.{Entry}
use Rattle.literal_reads.specs.declared.entries.Places.{Places}
use Rattle.literal_reads.specs.Keys.{entry_view, rows_view, at_key, begins_behind, begins_before, has_key, ends_behind, starts_before, HasPlaces, widened}

any_more : (p : typing.Entry → Bool) (rows : List typing.Entry) (e : typing.Entry) → list_any p (rows ++ e ∷ []) ≡ list_any p rows || p e
any_more p rows e = list_any-append p rows (e ∷ []) ∙ go (list_any p rows) (p e)
  where
    go : (a b : Bool) → a || (b || false) ≡ a || b
    go true b = refl
    go false true = refl
    go false false = refl

-- the least and the greatest of two, as tests
below_max : (n a b : ℕ) → ltb n a || ltb n b ≡ ltb n (max a b)
below_max n a b = grind (arith, nat_tests)

min_below : (n a b : ℕ) → ltb a n || ltb b n ≡ ltb (min a b) n
min_below n a b = grind (arith, nat_tests)

behind_more : (n : ℕ) (o : Option Places) (at : ℕ) (before : Bool) → before ≡ ends_behind n o → before || (ltb n at && true) ≡ ends_behind n (Some (widened o at))
behind_more n None at before e = ap (λ (b : Bool). b || (ltb n at && true)) e ∙ go (ltb n at)
  where
    go : (b : Bool) → false || (b && true) ≡ b
    go true = refl
    go false = refl
behind_more n (Some p) at before e = ap (λ (b : Bool). b || (ltb n at && true)) e ∙ ap (λ (b : Bool). ltb n p.last || b) (go (ltb n at)) ∙ below_max n p.last at
  where
    go : (b : Bool) → b && true ≡ b
    go true = refl
    go false = refl

before_more : (n : ℕ) (o : Option Places) (at : ℕ) (before : Bool) → before ≡ starts_before n o → before || (ltb at n && true) ≡ starts_before n (Some (widened o at))
before_more n None at before e = ap (λ (b : Bool). b || (ltb at n && true)) e ∙ go (ltb at n)
  where
    go : (b : Bool) → false || (b && true) ≡ b
    go true = refl
    go false = refl
before_more n (Some p) at before e = ap (λ (b : Bool). b || (ltb at n && true)) e ∙ ap (λ (b : Bool). ltb p.first n || b) (go (ltb at n)) ∙ min_below n p.first at
  where
    go : (b : Bool) → b && true ≡ b
    go true = refl
    go false = refl

or_never : (a b : Bool) → a || (b && false) ≡ a
or_never true b = refl
or_never false true = refl
or_never false false = refl

or_true : (a : Bool) → a || true ≡ true
or_true true = refl
or_true false = refl

or_false : (a : Bool) → a || false ≡ a
or_false true = refl
or_false false = refl

-- one property more
pub places_more : (places places' : BTreeMap Bytes Places) (rows : List typing.Entry) (e : typing.Entry) → HasPlaces places rows →
    ((key : Bytes) → at_key places' key ≡ cond (bytes_eq e.name key) (Some (widened (at_key places e.name) e.first)) (at_key places key)) → HasPlaces places' (rows ++ e ∷ [])
places_more places places' rows e told put = record {
  behind = λ n key. any_more (begins_behind n key) rows e ∙ go_behind n key (bytes_eq e.name key) refl ∙ ap (ends_behind n) (sym (put key));
  before = λ n key. any_more (begins_before n key) rows e ∙ go_before n key (bytes_eq e.name key) refl ∙ ap (starts_before n) (sym (put key));
  among = λ key. any_more (has_key key) rows e ∙ go_among key (bytes_eq e.name key) refl ∙ ap (λ (o : Option Places). is_some o) (sym (put key));
}
  where
    same : (key : Bytes) → bytes_eq e.name key ≡ true → at_key places e.name ≡ at_key places key
    same key is = ap (at_key places) ((bytes_decides e.name key).0 is)

    go_behind : (n : ℕ) (key : Bytes) (b : Bool) → bytes_eq e.name key ≡ b → list_any (begins_behind n key) rows || (ltb n e.first && b) ≡ ends_behind n (cond b (Some (widened (at_key places e.name) e.first)) (at_key places key))
    go_behind n key true is = behind_more n (at_key places e.name) e.first (list_any (begins_behind n key) rows) (told.behind n key ∙ ap (ends_behind n) (sym (same key is)))
    go_behind n key false is = or_never (list_any (begins_behind n key) rows) (ltb n e.first) ∙ told.behind n key

    go_before : (n : ℕ) (key : Bytes) (b : Bool) → bytes_eq e.name key ≡ b → list_any (begins_before n key) rows || (ltb e.first n && b) ≡ starts_before n (cond b (Some (widened (at_key places e.name) e.first)) (at_key places key))
    go_before n key true is = before_more n (at_key places e.name) e.first (list_any (begins_before n key) rows) (told.before n key ∙ ap (starts_before n) (sym (same key is)))
    go_before n key false is = or_never (list_any (begins_before n key) rows) (ltb e.first n) ∙ told.before n key

    go_among : (key : Bytes) (b : Bool) → bytes_eq e.name key ≡ b → list_any (has_key key) rows || b ≡ is_some (cond b (Some (widened (at_key places e.name) e.first)) (at_key places key))
    go_among key true is = or_true (list_any (has_key key) rows)
    go_among key false is = or_false (list_any (has_key key) rows) ∙ told.among key

-- the same places, whatever the map
pub places_same : (places places' : BTreeMap Bytes Places) (rows rows' : List typing.Entry) → HasPlaces places rows → ((key : Bytes) → at_key places' key ≡ at_key places key) → rows' ≡ rows → HasPlaces places' rows'
places_same places places' rows rows' told stays is = subst (HasPlaces places') (sym is) (record {
  behind = λ n key. told.behind n key ∙ ap (ends_behind n) (sym (stays key));
  before = λ n key. told.before n key ∙ ap (starts_before n) (sym (stays key));
  among = λ key. told.among key ∙ ap (λ (o : Option Places). is_some o) (sym (stays key));
})

-- the tests, by the places
pub counts_by_place : (places : BTreeMap Bytes Places) (rows : List typing.Entry) (e : typing.Entry) → HasPlaces places rows → not (ends_behind e.first (at_key places e.name)) ≡ typing.counts rows e
counts_by_place places rows e told = sym (ap not (told.behind e.first e.name))

pub stands_by_place : (places : BTreeMap Bytes Places) (rows : List typing.Entry) (e : typing.Entry) → HasPlaces places rows → starts_before e.first (at_key places e.name) ≡ typing.stands_before rows e
stands_by_place places rows e told = sym (told.before e.first e.name)

pub given_by_place : (places : BTreeMap Bytes Places) (rows : List typing.Entry) (key : Bytes) → HasPlaces places rows → is_some (at_key places key) ≡ typing.is_given rows key
given_by_place places rows key told = sym (told.among key)

-- no properties
pub no_places : (places : BTreeMap Bytes Places) → places.entries ≡ [] → HasPlaces places []
no_places places none_yet = record {
  behind = λ n key. sym (ap (ends_behind n) (nothing key));
  before = λ n key. sym (ap (starts_before n) (nothing key));
  among = λ key. sym (ap (λ (o : Option Places). is_some o) (nothing key));
}
  where
    nothing : (key : Bytes) → at_key places key ≡ None
    nothing key = ap (λ (l : List (Bytes × Places)). lookup (is_at (slice_cmp nat_cmp key)) l) none_yet

-- what an insert leaves at each key
pub place_put : (places places' : BTreeMap Bytes Places) (name : Bytes) (wide : Places) → ((q : Bytes) → get (slice_cmp nat_cmp) places' q ≡ cond (is_eq (slice_cmp nat_cmp name q)) (Some wide) (get (slice_cmp nat_cmp) places q)) →
    (key : Bytes) → at_key places' key ≡ cond (bytes_eq name key) (Some wide) (at_key places key)
place_put places places' name wide put key = put key ∙ ap (λ (b : Bool). cond b (Some wide) (at_key places key)) (is_eq-slice_cmp name key)

pub rows_last : (rows rows' : List Entry) (e : Entry) → rows' ≡ rows ++ e ∷ [] → rows_view rows' ≡ rows_view rows ++ entry_view e ∷ []
rows_last rows rows' e is = ap (λ (l : List Entry). rows_view l) is ∙ map_push entry_view rows e

-- one property more, by the name that was put in
pub placed_more : (places places' : BTreeMap Bytes Places) (rows rows' : List Entry) (e : Entry) (name : Bytes) → HasPlaces places (rows_view rows) → name ≡ e.name → rows' ≡ rows ++ e ∷ [] →
    ((key : Bytes) → at_key places' key ≡ cond (bytes_eq name key) (Some (widened (at_key places name) e.first)) (at_key places key)) → HasPlaces places' (rows_view rows')
placed_more places places' rows rows' e name told same grown put =
    subst (HasPlaces places') (sym (rows_last rows rows' e grown))
    (places_more places places' (rows_view rows) (entry_view e) told
    (subst (λ (n : Bytes). (key : Bytes) → at_key places' key ≡ cond (bytes_eq n key) (Some (widened (at_key places n) e.first)) (at_key places key)) same put))

-- the last one goes again
pub placed_same : (places places' : BTreeMap Bytes Places) (rows rows' : List Entry) → HasPlaces places (rows_view rows) → ((key : Bytes) → at_key places' key ≡ at_key places key) → rows' ≡ rows → HasPlaces places' (rows_view rows')
placed_same places places' rows rows' told stays is = places_same places places' (rows_view rows) (rows_view rows') told stays (ap (λ (l : List Entry). rows_view l) is)

-- A search along aliases: a step of it, and where it ends.
use Rattle.std.proofs.Common.{◌≡◌, ◌↔◌, ℕ, suc, ◌+◌, ◌<◌, ◌≤◌, Bool, true, false, ◌||◌, List, [], ◌∷◌, ◌++◌, length, length-append, Option, Some, None, cond, bytes_eq, refl, sym, ap, ◌∙◌, ◌⊎◌, inl, inr, subst, arith, append-nil}
use Rattle.std.proofs.lemmas.List.Sums.{sum_by-cons}
use Rattle.std.specs.Map.{lookup}
use Rattle.std.specs.BTreeMap.{is_at}
use Rattle.std.specs.Ordering.{nat_cmp, is_eq}
use Rattle.std.specs.Cmp.Lexicographic.{slice_cmp}
use Rattle.std.proofs.lemmas.Map.Text.{is_eq-slice_cmp}
use Rattle.check_values.specs.Rows.{Bytes, Rows, row_at, is_among}
use Rattle.type_values.specs.declared.types.FlowType.{FlowType}
use Rattle.local_signatures.specs.LocalSignature.{led_to_by, led_to_by_type}
use Rattle.local_signatures.proofs.Words.{bytes_same, bytes_itself, among_either, among_left, among_right}
use Rattle.told_signature.specs.Reaching.{IsReachedFrom, by_start, by_alias, IsMet, Reaches, unread}
use Rattle.named_rows.proofs.FirstRows.{Adds, lookup_is_row}

added : (has has' : Bytes → Bool) (word : Bytes) → Adds has has' word → has' word ≡ true
added has has' word adds = adds word ∙ ap (λ (b : Bool). cond b true (has word)) (is_eq-slice_cmp word word ∙ bytes_itself word)

still : (has has' : Bytes → Bool) (word w : Bytes) → Adds has has' word → has w ≡ true → has' w ≡ true
still has has' word w adds is = adds w ∙ go (is_eq (slice_cmp nat_cmp word w)) ∙ is
  where
    go : (b : Bool) → cond b true (has w) ≡ has w
    go true = sym is
    go false = refl

pub either : (has has' : Bytes → Bool) (word w : Bytes) → Adds has has' word → has' w ≡ true → (word ≡ w) ⊎ (has w ≡ true)
either has has' word w adds is = go (is_eq (slice_cmp nat_cmp word w)) (sym (adds w) ∙ is) refl
  where
    go : (b : Bool) → cond b true (has w) ≡ true → is_eq (slice_cmp nat_cmp word w) ≡ b → (word ≡ w) ⊎ (has w ≡ true)
    go true e same = inl (bytes_same word w (sym (is_eq-slice_cmp word w) ∙ same))
    go false e same = inr e

among_one : (word w : Bytes) → is_among (word ∷ []) w ≡ true → w ≡ word
among_one word w is = go (bytes_eq w word) refl is
  where
    go : (b : Bool) → bytes_eq w word ≡ b → b || false ≡ true → w ≡ word
    go true e f = bytes_same w word e
    go false e f = absurd (cc)

among_itself : (waiting : List Bytes) (word : Bytes) → is_among (waiting ++ word ∷ []) word ≡ true
among_itself waiting word = among_right waiting (word ∷ []) word (ap (λ (b : Bool). b || false) (bytes_itself word))

module _ (aliases : Rows FlowType) (starts : List Bytes) where
  met_still : (has has' : Bytes → Bool) (waiting more : List Bytes) (word w : Bytes) → ((v : Bytes) → has v ≡ true → has' v ≡ true) → has' word ≡ true → IsMet has (waiting ++ word ∷ []) w → IsMet has' (waiting ++ more) w
  met_still has has' waiting more word w grows now (inl is) = inl (grows w is)
  met_still has has' waiting more word w grows now (inr is) = elim (among_either waiting (word ∷ []) w is) [
    | inl e ↦ inr (among_left waiting more w e)
    | inr e ↦ inl (subst (λ (v : Bytes). has' v ≡ true) (sym (among_one word w e)) now)
  ]

  -- a name that was met before
  pub met_again : (has : Bytes → Bool) (waiting : List Bytes) (word : Bytes) → has word ≡ true → Reaches aliases starts has (waiting ++ word ∷ []) → Reaches aliases starts has waiting
  met_again has waiting word now r = record {
    sound = λ w. λ met. r.sound w (elim met [ inl e ↦ inl e | inr e ↦ inr (among_left waiting (word ∷ []) w e) ]);
    begun = λ w is. shorter w (r.begun w is);
    closed = λ w next t is row led. shorter next (r.closed w next t is row led);
  }
    where
      shorter : (w : Bytes) → IsMet has (waiting ++ word ∷ []) w → IsMet has waiting w
      shorter w (inl is) = inl is
      shorter w (inr is) = elim (among_either waiting (word ∷ []) w is) [
        | inl e ↦ inr e
        | inr e ↦ inl (subst (λ (v : Bytes). has v ≡ true) (sym (among_one word w e)) now)
      ]

  -- a new name, with the names that it leads to
  pub met_first : (has has' : Bytes → Bool) (waiting : List Bytes) (word : Bytes) → Adds has has' word → Reaches aliases starts has (waiting ++ word ∷ []) → Reaches aliases starts has' (waiting ++ led_to_by (row_at aliases word))
  met_first has has' waiting word adds r = record {
    sound = λ w met. from w met;
    begun = λ w is. on w (r.begun w is);
    closed = λ w next t is row led. elim (either has has' word w adds is) [
      | inl same ↦ inr (among_right waiting (led_to_by (row_at aliases word)) next (ap (λ (o : Option FlowType). is_among (led_to_by o) next) (ap (row_at aliases) same ∙ row) ∙ led))
      | inr before ↦ on next (r.closed w next t before row led)
    ];
  }
    where
      on : (w : Bytes) → IsMet has (waiting ++ word ∷ []) w → IsMet has' (waiting ++ led_to_by (row_at aliases word)) w
      on w met = met_still has has' waiting (led_to_by (row_at aliases word)) word w (λ v is. still has has' word v adds is) (added has has' word adds) met

      own : IsReachedFrom aliases starts word
      own = r.sound word (inr (among_itself waiting word))

      led : (o : Option FlowType) (w : Bytes) → row_at aliases word ≡ o → is_among (led_to_by o) w ≡ true → IsReachedFrom aliases starts w
      led None w is among = absurd (cc)
      led (Some t) w is among = by_alias word w t own is among

      from : (w : Bytes) → IsMet has' (waiting ++ led_to_by (row_at aliases word)) w → IsReachedFrom aliases starts w
      from w (inl is) = elim (either has has' word w adds is) [
        | inl same ↦ subst (IsReachedFrom aliases starts) same own
        | inr before ↦ r.sound w (inl before)
      ]
      from w (inr is) = elim (among_either waiting (led_to_by (row_at aliases word)) w is) [
        | inl e ↦ r.sound w (inr (among_left waiting (word ∷ []) w e))
        | inr e ↦ led (row_at aliases word) w refl e
      ]

  -- nothing but what waits is met at the start
  pub begins : (has : Bytes → Bool) → ((w : Bytes) → has w ≡ false) → Reaches aliases starts has starts
  begins has none = record {
    sound = λ w met. elim met [ inl e ↦ absurd (let f : false ≡ true = sym (none w) ∙ e in cc) | inr e ↦ by_start w e ];
    begun = λ w is. inr is;
    closed = λ w next t is row led. absurd (let f : false ≡ true = sym (none w) ∙ is in cc);
  }

  -- where nothing waits all that is reached is met
  pub ends : (has : Bytes → Bool) → Reaches aliases starts has [] → (w : Bytes) → (has w ≡ true) ↔ IsReachedFrom aliases starts w
  ends has r w = (λ is. r.sound w (inl is), all w)
    where
      is_in : (v : Bytes) → IsMet has [] v → has v ≡ true
      is_in v (inl is) = is
      is_in v (inr is) = absurd (let f : false ≡ true = is in cc)

      all : (v : Bytes) → IsReachedFrom aliases starts v → has v ≡ true
      all v (by_start _ is) = is_in v (r.begun v is)
      all v (by_alias word _ t before row led) = is_in v (r.closed word v t (all word before) row led)

-- ---- the measure

unread_cons : (has : Bytes → Bool) (row : Bytes × FlowType) (rows : Rows FlowType) → unread has (row ∷ rows) ≡ cond (has row.0) 0 (length (led_to_by_type row.1)) + unread has rows
unread_cons has row rows = sum_by-cons (λ row. cond (has row.0) 0 (length (led_to_by_type row.1))) row rows

unread_falls : (has has' : Bytes → Bool) (aliases : Rows FlowType) → ((w : Bytes) → has w ≡ true → has' w ≡ true) → unread has' aliases ≤ unread has aliases
unread_falls has has' [] grows = omega arith
unread_falls has has' (row ∷ rows) grows =
    let old = unread_cons has row rows in
    let new = unread_cons has' row rows in
    let step = go (has row.0) (has' row.0) refl refl (unread_falls has has' rows grows) in
    omega arith
  where
    go : (a b : Bool) → has row.0 ≡ a → has' row.0 ≡ b → unread has' rows ≤ unread has rows → cond b 0 (length (led_to_by_type row.1)) + unread has' rows ≤ cond a 0 (length (led_to_by_type row.1)) + unread has rows
    go true true e f le = omega arith
    go false true e f le = omega arith
    go false false e f le = omega arith
    go true false e f le = absurd (let h : true ≡ false = sym (grows row.0 e) ∙ f in cc)

-- a new name takes the names that it leads to out of those that are unread
pub unread_less : (has has' : Bytes → Bool) (word : Bytes) → has word ≡ false → Adds has has' word → (aliases : Rows FlowType) → unread has' aliases + length (led_to_by (row_at aliases word)) ≤ unread has aliases
unread_less has has' word fresh adds [] = omega arith
unread_less has has' word fresh adds (row ∷ rows) =
    let old = unread_cons has row rows in
    let new = unread_cons has' row rows in
    let step : cond (has' row.0) 0 (length (led_to_by_type row.1)) + unread has' rows + length (led_to_by (row_at (row ∷ rows) word)) ≤ cond (has row.0) 0 (length (led_to_by_type row.1)) + unread has rows =
    go (bytes_eq row.0 word) refl (unread_less has has' word fresh adds rows) in
    omega arith
  where
    grows : (w : Bytes) → has w ≡ true → has' w ≡ true
    grows w is = still has has' word w adds is

    there : row.0 ≡ word → cond (has' row.0) 0 (length (led_to_by_type row.1)) + unread has' rows + length (led_to_by_type row.1) ≤ cond (has row.0) 0 (length (led_to_by_type row.1)) + unread has rows
    there same = two (has row.0) (has' row.0) (ap has same ∙ fresh) (ap has' same ∙ added has has' word adds) (unread_falls has has' rows grows)
      where
        two : (a b : Bool) → a ≡ false → b ≡ true → unread has' rows ≤ unread has rows → cond b 0 (length (led_to_by_type row.1)) + unread has' rows + length (led_to_by_type row.1) ≤ cond a 0 (length (led_to_by_type row.1)) + unread has rows
        two false true e f le = omega arith
        two true b e f le = absurd (cc)
        two false false e f le = absurd (cc)

    else_where : (a b : Bool) → has row.0 ≡ a → has' row.0 ≡ b → unread has' rows + length (led_to_by (row_at rows word)) ≤ unread has rows →
        cond b 0 (length (led_to_by_type row.1)) + unread has' rows + length (led_to_by (row_at rows word)) ≤ cond a 0 (length (led_to_by_type row.1)) + unread has rows
    else_where true true e f le = omega arith
    else_where false true e f le = omega arith
    else_where false false e f le = omega arith
    else_where true false e f le = absurd (let h : true ≡ false = sym (grows row.0 e) ∙ f in cc)

    go : (b : Bool) → bytes_eq row.0 word ≡ b → unread has' rows + length (led_to_by (row_at rows word)) ≤ unread has rows → cond (has' row.0) 0 (length (led_to_by_type row.1)) + unread has' rows + length (led_to_by (cond b (Some row.1) (row_at rows word))) ≤ cond (has row.0) 0 (length (led_to_by_type row.1)) + unread has rows
    go true e rest = there (bytes_same row.0 word e)
    go false e rest = else_where (has row.0) (has' row.0) refl refl rest

-- ---- one step

longer : (waiting : List Bytes) (word : Bytes) → length (waiting ++ word ∷ []) ≡ suc (length waiting)
longer [] word = refl
longer (w ∷ waiting) word = ap suc (longer waiting word)

pub again_falls : (n : ℕ) (waiting : List Bytes) (word : Bytes) → n + length waiting < n + length (waiting ++ word ∷ [])
again_falls n waiting word = let e = longer waiting word in omega arith

pub first_falls : (has has' : Bytes → Bool) (aliases : Rows FlowType) (waiting : List Bytes) (word : Bytes) → has word ≡ false → Adds has has' word → unread has' aliases + length (waiting ++ led_to_by (row_at aliases word)) < unread has aliases + length (waiting ++ word ∷ [])
first_falls has has' aliases waiting word fresh adds =
    let e = longer waiting word in
    let f = length-append waiting (led_to_by (row_at aliases word)) in
    let less = unread_less has has' word fresh adds aliases in
    omega arith

-- a name that is no alias has no names
pub no_alias : (aliases : Rows FlowType) (word : Bytes) (names : List Bytes) → lookup (is_at (slice_cmp nat_cmp word)) aliases ≡ None → names ≡ names ++ led_to_by (row_at aliases word)
no_alias aliases word names none = sym (ap (λ (o : Option FlowType). names ++ led_to_by o) (sym (lookup_is_row aliases word) ∙ none) ∙ append-nil names)

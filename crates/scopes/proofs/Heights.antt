-- What a height was taken of stays as it was.
use Rattle.std.proofs.Common.{◌≡◌, ℕ, ◌+◌, ◌≤◌, ◌<◌, true, List, [], ◌∷◌, ◌++◌, length, take, drop, slice_get, Option, Some, length-append, refl, sym, ap, ◌∙◌, arith}
use Rattle.std.proofs.lemmas.List.{take-take, take_all, drop_all, take-append-le, drop-append-le, length-take-le, take-append-drop}
use Rattle.type_values.specs.declared.types.FlowType.{FlowType}
use Rattle.scopes.specs.Stack.{at_place}
use Rattle.scopes.specs.Rows.{names_view, declared_row, rows_before}
use Rattle.scopes.specs.declared.row.Row.{Row}
use Rattle.scopes.specs.declared.row.Earlier.{Earlier}
use Rattle.scopes.specs.declared.row.Height.{Height}
use Rattle.scopes.proofs.Stacks.{take_changed, length_changed, change_back}

-- ---- changes taken back

before_more : (changes : List Earlier) (e : Earlier) (rows : List Row) → rows_before (changes ++ e ∷ []) rows ≡ rows_before changes (at_place e.at (declared_row e.is_read e.declared) rows)
before_more [] e rows = refl
before_more (c ∷ changes) e rows = ap (at_place c.at (declared_row c.is_read c.declared)) (before_more changes e rows)

before_both : (changes more : List Earlier) (rows : List Row) → rows_before (changes ++ more) rows ≡ rows_before changes (rows_before more rows)
before_both [] more rows = refl
before_both (c ∷ changes) more rows = ap (at_place c.at (declared_row c.is_read c.declared)) (before_both changes more rows)

before_take : (k : ℕ) (changes : List Earlier) (rows : List Row) → take k (rows_before changes rows) ≡ rows_before changes (take k rows)
before_take k [] rows = refl
before_take k (c ∷ changes) rows = take_changed k c.at (declared_row c.is_read c.declared) (rows_before changes rows) ∙ ap (at_place c.at (declared_row c.is_read c.declared)) (before_take k changes rows)

length_before : (changes : List Earlier) (rows : List Row) → length (rows_before changes rows) ≡ length rows
length_before [] rows = refl
length_before (c ∷ changes) rows = length_changed c.at (declared_row c.is_read c.declared) (rows_before changes rows) ∙ length_before changes rows

-- ---- heights that are kept

-- each height of rows and changes is one of those after, with the same names
abbrev pub KeepsLists : List Row → List Earlier → List Row → List Earlier → Type 0
KeepsLists rows changes rows' changes' =
    (height : Height) → (height.rows ≤ length rows) × (height.changes ≤ length changes) →
    ((height.rows ≤ length rows') × (height.changes ≤ length changes'))
    × (names_view (rows_before (drop height.changes changes') (take height.rows rows')) ≡ names_view (rows_before (drop height.changes changes) (take height.rows rows)))

pub keeps_trans : (a b c : List Row) (x y z : List Earlier) → KeepsLists a x b y → KeepsLists b y c z → KeepsLists a x c z
keeps_trans a b c x y z first second height is =
    let one = first height is in
    let two = second height one.0 in
    (two.0, two.1 ∙ one.1)

pub keeps_same : (a b : List Row) (x y : List Earlier) → b ≡ a → y ≡ x → KeepsLists a x b y
keeps_same a b x y rows_same same height (rows, changes) =
    let alike : length y ≡ length x = ap length same in
    let as_long : length b ≡ length a = ap length rows_same in (
      (omega arith, omega arith),
      ap (λ (changes : List Earlier). names_view (rows_before (drop height.changes changes) (take height.rows b))) same
          ∙ ap (λ (rows : List Row). names_view (rows_before (drop height.changes x) (take height.rows rows))) rows_same,
    )

-- a declaration was read, and what it changed is noted
pub keeps_declared : (a b : List Row) (before after : List Earlier) (at : ℕ) (t : Option FlowType) (x : Row) (e : Earlier) → slice_get a at ≡ Some x → e ≡ record { at = at; is_read = x.binding.is_read; declared = x.binding.declared } →
    b ≡ at_place at (declared_row true t) a → after ≡ before ++ e ∷ [] → KeepsLists a before b after
keeps_declared a b before after at t x e there noted changed grown height (rows, changes) =
    let longer : length after ≡ length before + 1 = ap length grown ∙ length-append before (e ∷ []) in
    let as_long : length b ≡ length a = ap length changed ∙ length_changed at (declared_row true t) a in
    ((omega arith, omega arith), ap names_view (same_rows (drop height.changes before) (ap (drop height.changes) grown ∙ drop-append-le height.changes before (e ∷ []) changes)))
  where
    back : at_place e.at (declared_row e.is_read e.declared) (take height.rows b) ≡ take height.rows a
    back =
        ap (λ (earlier : Earlier). at_place earlier.at (declared_row earlier.is_read earlier.declared) (take height.rows b)) noted
        ∙ sym (take_changed height.rows at (declared_row x.binding.is_read x.binding.declared) b)
        ∙ ap (λ (rows : List Row). take height.rows (at_place at (declared_row x.binding.is_read x.binding.declared) rows)) changed
        ∙ ap (take height.rows) (change_back (declared_row true t) (declared_row x.binding.is_read x.binding.declared) at a x there refl)

    same_rows : (left : List Earlier) → drop height.changes after ≡ left ++ e ∷ [] → rows_before (drop height.changes after) (take height.rows b) ≡ rows_before left (take height.rows a)
    same_rows left is = ap (λ (changes : List Earlier). rows_before changes (take height.rows b)) is ∙ before_more left e (take height.rows b) ∙ ap (rows_before left) back

-- ---- going back

-- what a height gives is the same, and what was changed until then
abbrev pub AreBack : Height → List Row → List Earlier → List Row → List Earlier → Type 0
AreBack height rows changes rows' changes' =
    (rows_before (drop height.changes changes') (take height.rows rows') ≡ rows_before (drop height.changes changes) (take height.rows rows)) × (take height.changes changes' ≡ take height.changes changes)

pub back_trans : (height : Height) (a b c : List Row) (x y z : List Earlier) → AreBack height a x b y → AreBack height b y c z → AreBack height a x c z
back_trans height a b c x y z first second = (second.0 ∙ first.0, second.1 ∙ first.1)

-- one change taken back
pub back_one : (height : Height) (a b : List Row) (x y : List Earlier) (e : Earlier) → height.changes < length x → x ≡ y ++ e ∷ [] → b ≡ at_place e.at (declared_row e.is_read e.declared) a → AreBack height a x b y
back_one height a b x y e within last changed =
    let longer : length x ≡ length y + 1 = ap length last ∙ length-append y (e ∷ []) in
    let below : height.changes ≤ length y = omega arith in (
      ap (λ (rows : List Row). rows_before (drop height.changes y) rows) (ap (take height.rows) changed ∙ take_changed height.rows e.at (declared_row e.is_read e.declared) a)
          ∙ sym (before_more (drop height.changes y) e (take height.rows a))
          ∙ ap (λ (changes : List Earlier). rows_before changes (take height.rows a)) (sym (ap (drop height.changes) last ∙ drop-append-le height.changes y (e ∷ []) below)),
      sym (ap (take height.changes) last ∙ take-append-le height.changes y (e ∷ []) below),
    )

-- one name taken away
pub away_one : (height : Height) (a b : List Row) (x y : List Earlier) (row : Row) → height.rows < length a → a ≡ b ++ row ∷ [] → y ≡ x → AreBack height a x b y
away_one height a b x y row within last same =
    let longer : length a ≡ length b + 1 = ap length last ∙ length-append b (row ∷ []) in
    let below : height.rows ≤ length b = omega arith in (
      ap (λ (changes : List Earlier). rows_before (drop height.changes changes) (take height.rows b)) same
          ∙ ap (rows_before (drop height.changes x)) (sym (ap (take height.rows) last ∙ take-append-le height.rows b (row ∷ []) below)),
      ap (take height.changes) same,
    )

-- where no more is to be taken away, the rows are those of the height
pub all_left : (height : Height) (a b : List Row) (x y : List Earlier) → length b ≤ height.rows → length y ≤ height.changes → AreBack height a x b y → (b ≡ rows_before (drop height.changes x) (take height.rows a)) × (y ≡ take height.changes x)
all_left height a b x y rows changes (same, alike) = (
  sym (ap (λ (changes : List Earlier). rows_before changes (take height.rows b)) (drop_all height.changes y changes) ∙ take_all height.rows b rows) ∙ same,
  sym (take_all height.changes y changes) ∙ alike,
)

-- what was a height when this one was taken is one still
pub left_keeps : (height : Height) (a b : List Row) (x y : List Earlier) → (b ≡ rows_before (drop height.changes x) (take height.rows a)) × (y ≡ take height.changes x) →
    (rows : List Row) (changes : List Earlier) → (height.rows ≡ length rows) × (height.changes ≡ length changes) → KeepsLists rows changes a x → KeepsLists rows changes b y
left_keeps height a b x y (is_rows, is_changes) rows changes (top, last) kept g (g_rows, g_changes) =
    let own = (kept height (omega arith, omega arith)).0 in
    let known = kept g (g_rows, g_changes) in
    let low : g.rows ≤ height.rows = omega arith in
    let early : g.changes ≤ height.changes = omega arith in
    let long_rows : length b ≡ height.rows = ap length is_rows ∙ length_before (drop height.changes x) (take height.rows a) ∙ length-take-le height.rows a own.0 in
    let long_changes : length (take height.changes x) ≡ height.changes = length-take-le height.changes x own.1 in
    let all_changes : length y ≡ height.changes = ap length is_changes ∙ long_changes in (
      (omega arith, omega arith),
      ap names_view (same_rows low (split (omega arith))) ∙ known.1,
    )
  where
    split : g.changes ≤ length (take height.changes x) → drop g.changes x ≡ drop g.changes y ++ drop height.changes x
    split early =
        sym (ap (drop g.changes) (take-append-drop height.changes x)) ∙ drop-append-le g.changes (take height.changes x) (drop height.changes x) early
        ∙ ap (λ (items : List Earlier). drop g.changes items ++ drop height.changes x) (sym is_changes)

    same_rows : g.rows ≤ height.rows → drop g.changes x ≡ drop g.changes y ++ drop height.changes x → rows_before (drop g.changes y) (take g.rows b) ≡ rows_before (drop g.changes x) (take g.rows a)
    same_rows low is =
        ap (λ (items : List Row). rows_before (drop g.changes y) (take g.rows items)) is_rows
        ∙ ap (rows_before (drop g.changes y)) (before_take g.rows (drop height.changes x) (take height.rows a) ∙ ap (rows_before (drop height.changes x)) (take-take g.rows height.rows a low))
        ∙ sym (before_both (drop g.changes y) (drop height.changes x) (take g.rows a))
        ∙ ap (λ (changes : List Earlier). rows_before changes (take g.rows a)) (sym is)

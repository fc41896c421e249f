-- From a name to the next outer one with its number.
use Rattle.std.proofs.Common.{◌≡◌, ℕ, suc, ◌==◌, ◌&&◌, ◌||◌, ◌<◌, ◌≤◌, Bool, true, false, List, [], ◌∷◌, ◌++◌, length, map, get_or, slice_get, Option, Some, None, cond, refl, sym, ap, ◌∙◌, subst, append-nil, append_assoc, length-append, arith}
use Rattle.std.specs.List.{list_any}
use Rattle.std.proofs.lemmas.Bool.{eqb-true, eq-eqb}
use Rattle.std.proofs.lemmas.List.{map-append}
use Rattle.std.proofs.lemmas.Option.{get_or_from_slice_get}
use Rattle.type_values.specs.declared.types.FlowType.{FlowType}
use Rattle.typing.specs.Statements.{is_shared_kind}
use Rattle.typing.specs.Names as typing
use Rattle.scopes.specs.Stack.{last_at, AreLinked, at_place}
use Rattle.scopes.specs.Rows.{kind_view, names_view, has_number, is_numbered_like, declared_row}
use Rattle.scopes.specs.declared.row.Row.{Row}
use Rattle.scopes.proofs.Stacks.{after_place, last_found, get_last, linked_last, any_of_none, any_step, map_of_none, map_step, place_within}
use Rattle.scopes.proofs.Named.{any_seen, row_read, read_seen}

-- the next name, and what is ahead of it
abbrev pub IsNext : ℕ → List Row → ℕ → Row → List Row → List Row → Type 0
IsNext number front at row ahead behind =
    (front ≡ ahead ++ row ∷ behind) × (length ahead ≡ at) × (row.binding.number ≡ number) × (last_at (has_number number) behind ≡ None)

-- where the rows are linked, the row at the next place leads on
pub next_row : (number : ℕ) (rows front back : List Row) (at : ℕ) (row : Row) → Some at ≡ last_at (has_number number) front → rows ≡ front ++ back → row ≡ get_or rows at row →
    (ahead : List Row) × (behind : List Row) × IsNext number front at row ahead behind
next_row number rows front back at row is split read =
    let (ahead, x, behind, cut, long, passes, none) = last_found (has_number number) front at (sym is) in
    let there : slice_get rows at ≡ Some x = ap (λ (l : List Row). slice_get l at) (split ∙ ap (λ (l : List Row). l ++ back) cut ∙ append_assoc ahead (x ∷ behind) back) ∙ ap (slice_get (ahead ++ x ∷ (behind ++ back))) (sym long) ∙ get_last ahead (behind ++ back) x in
    let same : row ≡ x = read ∙ get_or_from_slice_get rows at x row there in
    (ahead, behind, (cut ∙ ap (λ (y : Row). ahead ++ y ∷ behind) (sym same), long, ap (λ (y : Row). y.binding.number) same ∙ eqb-true x.binding.number number passes, none))

pub leads_on : (number : ℕ) (rows front back ahead behind : List Row) (at : ℕ) (row : Row) → AreLinked is_numbered_like (λ (r : Row). r.outer_number) rows → rows ≡ front ++ back → IsNext number front at row ahead behind →
    row.outer_number ≡ last_at (has_number number) ahead
leads_on number rows front back ahead behind at row linked split (cut, long, is, none) =
    linked_last is_numbered_like (λ (r : Row). r.outer_number) ahead (behind ++ back) row (subst (AreLinked is_numbered_like (λ (r : Row). r.outer_number)) (split ∙ ap (λ (l : List Row). l ++ back) cut ∙ append_assoc ahead (row ∷ behind) back) linked)
    ∙ ap (λ (n : ℕ). last_at (has_number n) ahead) is

-- the place is one of the stack
pub next_within : (number : ℕ) (rows front back : List Row) (at : ℕ) → Some at ≡ last_at (has_number number) front → rows ≡ front ++ back → at < length rows
next_within number rows front back at is split =
    omega (arith, subst (λ (o : Option ℕ). after_place o ≤ length front) (sym is) (place_within (has_number number) front), ap length split, length-append front back)

-- ---- whether one is of a kind

module _ (sought : typing.Kind → Bool) where
  abbrev is_kind : Row → Bool
  is_kind row = sought (kind_view row.binding.kind)

  -- a name with this number, of such a kind
  abbrev is_sought : ℕ → Row → Bool
  is_sought number row = has_number number row && is_kind row

  unfoldable pub IsLooked : ℕ → List Row → Option ℕ → Type 0
  IsLooked number rows next =
      (front : List Row) × (back : List Row) × (rows ≡ front ++ back) × (next ≡ last_at (has_number number) front) × (list_any (is_sought number) rows ≡ list_any (is_sought number) front)

  pub looked_first : (number : ℕ) (rows : List Row) (next : Option ℕ) → next ≡ last_at (has_number number) rows → IsLooked number rows next
  unfolding IsLooked
  looked_first number rows next is = (rows, [], sym (append-nil rows), is, refl)

  pub looked_within : (number : ℕ) (rows : List Row) (next : Option ℕ) (at : ℕ) → next ≡ Some at → IsLooked number rows next → at < length rows
  unfolding IsLooked
  looked_within number rows next at is (front, back, split, found, same) = next_within number rows front back at (sym is ∙ found) split

  looked_step : (number : ℕ) (rows : List Row) (next : Option ℕ) (at : ℕ) (row : Row) → next ≡ Some at → row ≡ get_or rows at row → IsLooked number rows next → AreLinked is_numbered_like (λ (r : Row). r.outer_number) rows →
      (ahead : List Row) × (behind : List Row) × (rows ≡ ahead ++ behind) × (row.outer_number ≡ last_at (has_number number) ahead) × (list_any (is_sought number) rows ≡ (sought (kind_view row.binding.kind) || list_any (is_sought number) ahead)) × (length ahead ≡ at)
  unfolding IsLooked
  looked_step number rows next at row is read (front, back, split, found, same) linked =
      let (ahead, behind, (cut, long, number_is, none)) = next_row number rows front back at row (sym is ∙ found) split read in (
        ahead,
        row ∷ behind ++ back,
        split ∙ ap (λ (l : List Row). l ++ back) cut ∙ append_assoc ahead (row ∷ behind) back,
        leads_on number rows front back ahead behind at row linked split (cut, long, number_is, none),
        same ∙ ap (list_any (is_sought number)) cut ∙ any_step (has_number number) is_kind ahead behind row (passes number_is) none,
        long,
      )
    where
      passes : row.binding.number ≡ number → has_number number row ≡ true
      passes e = eq-eqb row.binding.number number e

  pub looked_on : (number : ℕ) (rows : List Row) (next : Option ℕ) (at : ℕ) (row : Row) → next ≡ Some at → row ≡ get_or rows at row → AreLinked is_numbered_like (λ (r : Row). r.outer_number) rows → IsLooked number rows next → (met : Bool) → met ≡ sought (kind_view row.binding.kind) → met ≡ false → IsLooked number rows row.outer_number
  unfolding IsLooked
  looked_on number rows next at row is read linked looked met told passes =
      let (ahead, behind, split, found, same, long) = looked_step number rows next at row is read looked linked in
      (ahead, behind, split, found, same ∙ ap (λ (b : Bool). b || list_any (is_sought number) ahead) (sym told ∙ passes))

  pub looked_falls : (number : ℕ) (rows : List Row) (next : Option ℕ) (at : ℕ) (row : Row) → next ≡ Some at → row ≡ get_or rows at row → AreLinked is_numbered_like (λ (r : Row). r.outer_number) rows → IsLooked number rows next → after_place row.outer_number < after_place next
  unfolding IsLooked
  looked_falls number rows next at row is read linked looked =
      let (ahead, behind, split, found, same, long) = looked_step number rows next at row is read looked linked in
      subst (λ (o : Option ℕ). after_place row.outer_number < after_place o) (sym is) (subst (λ (o : Option ℕ). after_place o < suc at) (sym found) (omega (arith, place_within (has_number number) ahead)))

  -- whether a name with the number is of the kind, as the definition asks
  pub kind_seen : (rows : List Row) (number : ℕ) → list_any (λ (b : typing.Binding). (b.number == number) && sought b.kind) (names_view rows) ≡ list_any (is_sought number) rows
  kind_seen rows number = any_seen (λ (b : typing.Binding). (b.number == number) && sought b.kind) rows

  pub looked_yes : (number : ℕ) (rows : List Row) (next : Option ℕ) (at : ℕ) (row : Row) → next ≡ Some at → row ≡ get_or rows at row → AreLinked is_numbered_like (λ (r : Row). r.outer_number) rows → IsLooked number rows next → (met : Bool) → met ≡ sought (kind_view row.binding.kind) → met ≡ true →
      true ≡ list_any (λ (b : typing.Binding). (b.number == number) && sought b.kind) (names_view rows)
  unfolding IsLooked
  looked_yes number rows next at row is read linked looked met told passes =
      let (ahead, behind, split, found, same, long) = looked_step number rows next at row is read looked linked in
      sym (kind_seen rows number ∙ same ∙ ap (λ (b : Bool). b || list_any (is_sought number) ahead) (sym told ∙ passes))

  pub looked_no : (number : ℕ) (rows : List Row) (next : Option ℕ) → next ≡ None → IsLooked number rows next → false ≡ list_any (λ (b : typing.Binding). (b.number == number) && sought b.kind) (names_view rows)
  unfolding IsLooked
  looked_no number rows next is (front, back, split, found, same) = sym (kind_seen rows number ∙ same ∙ any_of_none (has_number number) is_kind front (sym found ∙ is))

pub shared_yes : (number : ℕ) (rows : List Row) (next : Option ℕ) (at : ℕ) (row : Row) → next ≡ Some at → row ≡ get_or rows at row → AreLinked is_numbered_like (λ (r : Row). r.outer_number) rows → IsLooked is_shared_kind number rows next → (met : Bool) → met ≡ is_shared_kind (kind_view row.binding.kind) → met ≡ true →
    true ≡ list_any (λ (b : typing.Binding). (b.number == number) && is_shared_kind b.kind) (names_view rows)
shared_yes = looked_yes is_shared_kind

pub shared_no : (number : ℕ) (rows : List Row) (next : Option ℕ) → next ≡ None → IsLooked is_shared_kind number rows next → false ≡ list_any (λ (b : typing.Binding). (b.number == number) && is_shared_kind b.kind) (names_view rows)
shared_no = looked_no is_shared_kind

-- ---- a declaration that was read

-- the names from some place on are changed
abbrev pub IsDeclared : ℕ → FlowType → List Row → List Row → Option ℕ → Type 0
IsDeclared number t before rows next =
    (front : List Row) × (back : List Row) × (before ≡ front ++ back) × (next ≡ last_at (has_number number) front) × (rows ≡ front ++ map (row_read number t) back)

pub declared_first : (number : ℕ) (t : FlowType) (rows : List Row) (next : Option ℕ) → next ≡ last_at (has_number number) rows → IsDeclared number t rows rows next
declared_first number t rows next is = (rows, [], sym (append-nil rows), is, sym (append-nil rows))

pub declared_within : (number : ℕ) (t : FlowType) (before rows : List Row) (next : Option ℕ) (at : ℕ) → next ≡ Some at → IsDeclared number t before rows next → at < length rows
declared_within number t before rows next at is (front, back, split, found, now) = next_within number rows front (map (row_read number t) back) at (sym is ∙ found) now

read_stays : (number : ℕ) (t : FlowType) (row : Row) → has_number number row ≡ false → row_read number t row ≡ row
read_stays number t row other = ap (λ (b : Bool). cond b (declared_row true (Some t) row) row) other

declared_step : (number : ℕ) (t : FlowType) (before rows after : List Row) (next : Option ℕ) (at : ℕ) (row : Row) → next ≡ Some at → row ≡ get_or rows at row → AreLinked is_numbered_like (λ (r : Row). r.outer_number) rows → after ≡ at_place at (declared_row true (Some t)) rows → IsDeclared number t before rows next →
    (ahead : List Row) × (behind : List Row) × (before ≡ ahead ++ behind) × (row.outer_number ≡ last_at (has_number number) ahead) × (after ≡ ahead ++ map (row_read number t) behind) × (length ahead ≡ at)
declared_step number t before rows after next at row is read linked changed (front, back, split, found, now) =
    let (ahead, behind, (cut, long, number_is, none)) = next_row number rows front (map (row_read number t) back) at row (sym is ∙ found) now read in (
      ahead,
      row ∷ behind ++ back,
      split ∙ ap (λ (l : List Row). l ++ back) cut ∙ append_assoc ahead (row ∷ behind) back,
      leads_on number rows front (map (row_read number t) back) ahead behind at row linked now (cut, long, number_is, none),
      changed ∙ ap (at_place at (declared_row true (Some t))) (now ∙ ap (λ (l : List Row). l ++ map (row_read number t) back) cut)
          ∙ ap (λ (i : ℕ). at_place i (declared_row true (Some t)) ((ahead ++ row ∷ behind) ++ map (row_read number t) back)) (sym long)
          ∙ map_step (has_number number) (row_read number t) (declared_row true (Some t)) (read_stays number t) ahead behind back row (reads number_is) none,
      long,
    )
  where
    reads : row.binding.number ≡ number → declared_row true (Some t) row ≡ row_read number t row
    reads e = sym (ap (λ (b : Bool). cond b (declared_row true (Some t) row) row) (eq-eqb row.binding.number number e))

pub declared_on : (number : ℕ) (t : FlowType) (before rows after : List Row) (next : Option ℕ) (at : ℕ) (row : Row) → next ≡ Some at → row ≡ get_or rows at row → AreLinked is_numbered_like (λ (r : Row). r.outer_number) rows → after ≡ at_place at (declared_row true (Some t)) rows →
    IsDeclared number t before rows next → IsDeclared number t before after row.outer_number
declared_on number t before rows after next at row is read linked changed declared =
    let (ahead, behind, split, found, now, long) = declared_step number t before rows after next at row is read linked changed declared in
    (ahead, behind, split, found, now)

pub declared_falls : (number : ℕ) (t : FlowType) (before rows : List Row) (next : Option ℕ) (at : ℕ) (row : Row) → next ≡ Some at → row ≡ get_or rows at row → AreLinked is_numbered_like (λ (r : Row). r.outer_number) rows → IsDeclared number t before rows next → after_place row.outer_number < after_place next
declared_falls number t before rows next at row is read linked declared =
    let (ahead, behind, split, found, now, long) = declared_step number t before rows (at_place at (declared_row true (Some t)) rows) next at row is read linked refl declared in
    subst (λ (o : Option ℕ). after_place row.outer_number < after_place o) (sym is) (subst (λ (o : Option ℕ). after_place o < suc at) (sym found) (omega (arith, place_within (has_number number) ahead)))

pub declared_all : (number : ℕ) (t : FlowType) (before rows : List Row) (next : Option ℕ) → next ≡ None → IsDeclared number t before rows next → names_view rows ≡ map (typing.binding_read number t) (names_view before)
declared_all number t before rows next is (front, back, split, found, now) =
    ap names_view (now ∙ ap (λ (l : List Row). l ++ map (row_read number t) back) (sym (map_of_none (has_number number) (row_read number t) (read_stays number t) front (sym found ∙ is))) ∙ sym (map-append (row_read number t) front back) ∙ sym (ap (map (row_read number t)) split))
    ∙ read_seen number t before

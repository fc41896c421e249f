-- One row more, and one module more: each goes before those that were read.
use Rattle.std.proofs.Common.{◌≡◌, ℕ, Bool, true, false, cond, List, [], ◌∷◌, ◌++◌, length, slice_get, Option, Some, None, unwrap_or, bytes_eq, refl, sym, ap, ◌∙◌, append_assoc, append-nil, arith}
use Rattle.std.specs.Option.{option_and_then}
use Rattle.std.specs.Ordering.{nat_cmp}
use Rattle.std.specs.Cmp.Lexicographic.{slice_cmp}
use Rattle.std.specs.BTreeMap.{get, is_at}
use Rattle.std.specs.Map.{lookup}
use Rattle.std.proofs.lemmas.Map.Text.{is_eq-slice_cmp}
use Rattle.check_values.specs.Rows.{Bytes, Rows, row_at}
use Rattle.name_numbers.specs.Looking.{looked_or, looked}
use Rattle.name_numbers.specs.Numbering.{Places, Modules, place, number_at, row_or, node_at}

module _ {N : Type 0} where
  at_end : (nodes more : List N) (x : N) → slice_get (nodes ++ x ∷ more) (length nodes) ≡ Some x
  at_end [] more x = refl
  at_end (y ∷ nodes) more x = at_end nodes more x

  past_end : (nodes : List N) → slice_get nodes (length nodes) ≡ None
  past_end [] = refl
  past_end (y ∷ nodes) = past_end nodes

  -- nodes behind the others change nothing
  node_grown : (nodes nodes' added more : List N) (p : Option ℕ) → nodes' ≡ nodes ++ added → node_at nodes' more p ≡ node_at nodes (added ++ more) p
  node_grown nodes nodes' added more p is = ap (λ (l : List N). option_and_then (slice_get l) p) (ap (λ (l : List N). l ++ more) is ∙ append_assoc nodes added more)

  pub row_alone : (rows : Rows N) (name : Bytes) → row_at rows name ≡ row_or rows name None
  row_alone [] name = refl
  row_alone (row ∷ rows) name = ap (cond (bytes_eq row.0 name) (Some row.1)) (row_alone rows name)

  row_last : (rows : Rows N) (row : Bytes × N) (name : Bytes) (rest : Option N) → row_or (rows ++ row ∷ []) name rest ≡ row_or rows name (cond (bytes_eq row.0 name) (Some row.1) rest)
  row_last [] row name rest = refl
  row_last (r ∷ rows) row name rest = ap (cond (bytes_eq r.0 name) (Some r.1)) (row_last rows row name rest)

  -- a name is put into the map, with the number of its node
  pub named : (all rows rows' : Rows N) (word : Bytes) (x : N) (nodes nodes' : List N) (places places' : Places) (number : ℕ) →
      ((name : Bytes) (more : List N) → row_at all name ≡ row_or rows name (node_at nodes more (place places name))) → rows ≡ rows' ++ (word, x) ∷ [] → nodes' ≡ nodes ++ x ∷ [] → number ≡ length nodes →
      ((name : Bytes) → place places' name ≡ cond (is_at (slice_cmp nat_cmp word) name) (Some number) (place places name)) →
      (name : Bytes) (more : List N) → row_at all name ≡ row_or rows' name (node_at nodes' more (place places' name))
  named all rows rows' word x nodes nodes' places places' number before last grown at puts name more =
      before name (x ∷ more) ∙ ap (λ (l : Rows N). row_or l name (node_at nodes (x ∷ more) (place places name))) last ∙ row_last rows' (word, x) name (node_at nodes (x ∷ more) (place places name))
      ∙ ap (row_or rows' name) (sym (ap (node_at nodes' more) (puts name ∙ ap (λ (b : Bool). cond b (Some number) (place places name)) (is_eq-slice_cmp word name)) ∙ node_grown nodes nodes' (x ∷ []) more _ grown ∙ go (bytes_eq word name)))
    where
      go : (b : Bool) → node_at nodes (x ∷ more) (cond b (Some number) (place places name)) ≡ cond b (Some x) (node_at nodes (x ∷ more) (place places name))
      go true = ap (slice_get (nodes ++ x ∷ more)) at ∙ at_end nodes more x
      go false = refl

  looked_last : (modules : Rows (Rows N)) (m : Bytes × Rows N) (path name : Bytes) (rest : Option N) → looked_or (modules ++ m ∷ []) path name rest ≡ looked_or modules path name (cond (bytes_eq m.0 path) (row_at m.1 name) rest)
  looked_last [] m path name rest = refl
  looked_last (first ∷ modules) m path name rest = ap (cond (bytes_eq first.0 path) (row_at first.1 name)) (looked_last modules m path name rest)

  -- a module's names are put into the map
  pub added_module : (all modules modules' : Rows (Rows N)) (home : Bytes) (rows : Rows N) (nodes nodes' : List N) (places : Places) (maps maps' : Modules) →
      ((path name : Bytes) (more : List N) → looked all path name ≡ looked_or modules path name (node_at nodes more (number_at maps path name))) → modules ≡ modules' ++ (home, rows) ∷ [] →
      (added : List N) × (nodes' ≡ nodes ++ added) → ((name : Bytes) (more : List N) → node_at nodes' more (place places name) ≡ row_at rows name) →
      ((path : Bytes) → get (slice_cmp nat_cmp) maps' path ≡ cond (is_at (slice_cmp nat_cmp home) path) (Some places) (get (slice_cmp nat_cmp) maps path)) →
      (path name : Bytes) (more : List N) → looked all path name ≡ looked_or modules' path name (node_at nodes' more (number_at maps' path name))
  added_module all modules modules' home rows nodes nodes' places maps maps' before last grown own puts path name more =
      before path name (grown.0 ++ more)
      ∙ ap (λ (l : Rows (Rows N)). looked_or l path name (node_at nodes (grown.0 ++ more) (number_at maps path name))) last ∙ looked_last modules' (home, rows) path name (node_at nodes (grown.0 ++ more) (number_at maps path name))
      ∙ ap (looked_or modules' path name) (sym (ap (λ (o : Option Places). node_at nodes' more (option_and_then (λ p. place p name) o)) (puts path ∙ ap (λ (b : Bool). cond b (Some places) (get (slice_cmp nat_cmp) maps path)) (is_eq-slice_cmp home path)) ∙ go (bytes_eq home path)))
    where
      go : (b : Bool) → node_at nodes' more (option_and_then (λ p. place p name) (cond b (Some places) (get (slice_cmp nat_cmp) maps path))) ≡ cond b (row_at rows name) (node_at nodes (grown.0 ++ more) (number_at maps path name))
      go true = own name more
      go false = node_grown nodes nodes' grown.0 more (number_at maps path name) grown.1

  -- a number that there is stands for what it stood for, and the number of all nodes for nothing
  pub all_looked : (nodes : List N) (o : Option N) (p : Option ℕ) → o ≡ node_at nodes [] p → slice_get nodes (unwrap_or p (length nodes)) ≡ o
  all_looked nodes o p is = sym (is ∙ ap (λ (l : List N). option_and_then (slice_get l) p) (append-nil nodes) ∙ go p)
    where
      go : (p : Option ℕ) → option_and_then (slice_get nodes) p ≡ slice_get nodes (unwrap_or p (length nodes))
      go None = sym (past_end nodes)
      go (Some n) = refl

  -- where the map is empty all rows are to come
  pub begun : (rows : Rows N) (nodes more : List N) (places : Places) → places.entries ≡ [] → (name : Bytes) → row_at rows name ≡ row_or rows name (node_at nodes more (place places name))
  begun rows nodes more places empty name = row_alone rows name ∙ ap (λ (l : List (Bytes × ℕ)). row_or rows name (node_at nodes more (lookup (is_at (slice_cmp nat_cmp name)) l))) (sym empty)

  pub begun_modules : (modules : Rows (Rows N)) (nodes more : List N) (maps : Modules) → maps.entries ≡ [] → (path name : Bytes) → looked modules path name ≡ looked_or modules path name (node_at nodes more (number_at maps path name))
  begun_modules modules nodes more maps empty path name = ap (λ (l : List (Bytes × Places)). looked_or modules path name (node_at nodes more (option_and_then (λ p. place p name) (lookup (is_at (slice_cmp nat_cmp path)) l)))) (sym empty)

pub none_left : {X : Type 0} (xs : List X) → length xs ≡ 0 → xs ≡ []
none_left [] none = refl
none_left (x ∷ xs) none = absurd (omega arith)

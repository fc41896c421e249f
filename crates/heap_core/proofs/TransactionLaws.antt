-- What whole transactions do.
use Rattle.std.proofs.Common.{◌≡◌, ◌≢◌, ℕ, zero, suc, ◌+◌, ◌<◌, Bool, true, false, List, [], ◌∷◌, ◌++◌, map, length, set, replicate, slice_get, get_or, take, drop, refl, sym, ap, ◌∙◌, subst, arith, Option, Some, None}
use Rattle.std.specs.Arc.{arc_value}
use Rattle.std.specs.declared.sync.Arc.{Arc}
use Rattle.std.proofs.lemmas.List.{length-map}
use Rattle.heap_core.specs.Meaning.{Meaning, IsSound, none_of, stamped, opened, staging, after_commit, after_rollback, names}
use Rattle.heap_core.specs.PlainLaws.{none_some}
use Rattle.heap_core.specs.Transactions.{numbers_of, written, all_staged, Committed, IsStaging, with_state}
use Rattle.heap_core.proofs.Lists.{put_else, take_all, drop_past}
use Rattle.heap_core.proofs.Names.{names-not, marked, marked_here, marked_else, length-marked}

none_of-length : (cs bs : List Bool) → length cs ≡ length bs → none_of cs ≡ none_of bs
none_of-length [] [] s = refl
none_of-length [] (b ∷ bs) s = absurd (omega arith)
none_of-length (c ∷ cs) [] s = absurd (omega arith)
none_of-length (c ∷ cs) (b ∷ bs) s = ap (λ (l : List Bool). false ∷ l) (none_of-length cs bs (omega arith))

get-none_of : (bs : List Bool) (e : ℕ) → e < length bs → slice_get (none_of bs) e ≡ Some false
get-none_of [] e h = absurd (omega arith)
get-none_of (b ∷ bs) zero h = refl
get-none_of (b ∷ bs) (suc e) h = get-none_of bs e (omega arith)

stamped_else : (v : ℕ) (bs : List Bool) (ns : List ℕ) (e : ℕ) → slice_get bs e ≡ Some false → slice_get (stamped v bs ns) e ≡ slice_get ns e
stamped_else v [] ns e h = absurd (none_some false h)
stamped_else v (b ∷ bs) [] e h = refl
stamped_else v (true ∷ bs) (n ∷ ns) zero h = absurd (let z : Some true ≡ Some false = h in cc)
stamped_else v (false ∷ bs) (n ∷ ns) zero h = refl
stamped_else v (b ∷ bs) (n ∷ ns) (suc e) h = stamped_else v bs ns e h

stamped_here : (v : ℕ) (bs : List Bool) (ns : List ℕ) (e : ℕ) → e < length ns → slice_get bs e ≡ Some true → slice_get (stamped v bs ns) e ≡ Some v
stamped_here v [] ns e s h = absurd (none_some true h)
stamped_here v (b ∷ bs) [] e s h = absurd (omega arith)
stamped_here v (true ∷ bs) (n ∷ ns) zero s h = refl
stamped_here v (false ∷ bs) (n ∷ ns) zero s h = absurd (let z : Some false ≡ Some true = h in cc)
stamped_here v (b ∷ bs) (n ∷ ns) (suc e) s h = stamped_here v bs ns e (omega arith) h

stamped_past : (v : ℕ) (bs : List Bool) (ns : List ℕ) (e : ℕ) → slice_get bs e ≡ None → slice_get (stamped v bs ns) e ≡ slice_get ns e
stamped_past v [] ns e h = refl
stamped_past v (b ∷ bs) [] e h = refl
stamped_past v (b ∷ bs) (n ∷ ns) zero h = none_some b (sym h)
stamped_past v (b ∷ bs) (n ∷ ns) (suc e) h = stamped_past v bs ns e h

stamped_all : (v n : ℕ) (ns : List ℕ) → length ns ≡ n → stamped v (replicate n true) ns ≡ replicate n v
stamped_all v zero [] same = refl
stamped_all v zero (k ∷ ns) same = absurd (omega arith)
stamped_all v (suc n) [] same = absurd (omega arith)
stamped_all v (suc n) (k ∷ ns) same = ap (λ (l : List ℕ). v ∷ l) (stamped_all v n ns (omega arith))

none_of-all : (n : ℕ) → none_of (replicate n true) ≡ replicate n false
none_of-all zero = refl
none_of-all (suc n) = ap (λ (l : List Bool). false ∷ l) (none_of-all n)

-- one more flag is set
one_more : (bs : List Bool) (e : ℕ) → e < length bs → set (replicate e true ++ drop e bs) e true ≡ replicate (e + 1) true ++ drop (e + 1) bs
one_more [] e h = absurd (omega arith)
one_more (b ∷ bs) zero h = refl
one_more (b ∷ bs) (suc e) h = let n : suc e + 1 ≡ suc (e + 1) = omega arith in rw n (ap (λ (l : List Bool). true ∷ l) (one_more bs e (omega arith)))

get_mapped : {A B : Type 0} (f : A → B) (xs : List A) (i : ℕ) (x : A) → i < length xs → x ≡ get_or xs i x → slice_get (map f xs) i ≡ Some (f x)
get_mapped f [] i x within is = absurd (omega arith)
get_mapped f (y ∷ ys) zero x within is = ap (λ z. Some (f z)) (sym is)
get_mapped f (y ∷ ys) (suc i) x within is = get_mapped f ys i x (omega arith) is

module _ {A : Type 0} where
  -- two lists of one length with the same entries
  same_list : (xs ys : List A) → length xs ≡ length ys → ((e : ℕ) → e < length xs → slice_get xs e ≡ slice_get ys e) → xs ≡ ys
  same_list [] [] s at = refl
  same_list [] (y ∷ ys) s at = absurd (omega arith)
  same_list (x ∷ xs) [] s at = absurd (omega arith)
  same_list (x ∷ xs) (y ∷ ys) s at = let first : x ≡ y = (let z : Some x ≡ Some y = at 0 (omega arith) in cc) in λ j. first j ∷ same_list xs ys (omega arith) (λ e h. at (suc e) (omega arith)) j

  -- the new entries are written over the old ones in order
  overwrite : (xs ys : List A) (e : ℕ) (x : A) → e < length xs → length ys ≡ length xs → slice_get xs e ≡ Some x → set (take e xs ++ drop e ys) e x ≡ take (e + 1) xs ++ drop (e + 1) ys
  overwrite [] ys e x within long at = absurd (omega arith)
  overwrite (a ∷ xs) [] e x within long at = absurd (omega arith)
  overwrite (a ∷ xs) (b ∷ ys) zero x within long at = ap (λ (z : A). z ∷ ys) (let same : Some a ≡ Some x = at in cc)
  overwrite (a ∷ xs) (b ∷ ys) (suc e) x within long at =
      let n : suc e + 1 ≡ suc (e + 1) = omega arith in rw n (ap (λ (l : List A). a ∷ l) (overwrite xs ys e x (omega arith) (omega arith) at))

  written_else : (cs : List (ℕ × A)) (xs : List A) (e : ℕ) → names (numbers_of cs) e ≡ false → slice_get (written cs xs) e ≡ slice_get xs e
  written_else [] xs e h = refl
  written_else (c ∷ cs) xs e h = let n = names-not c.0 (numbers_of cs) e h in written_else cs (set xs c.0 c.1) e n.1 ∙ put_else xs c.0 e c.1 n.0

module _ {P : Type 0} where
  staged-committed : (cs : List (ℕ × P)) (m : Meaning P) → (all_staged cs m).committed ≡ m.committed
  staged-committed [] m = refl
  staged-committed (c ∷ cs) m = staged-committed cs (staging c.0 c.1 m)

  staged-version : (cs : List (ℕ × P)) (m : Meaning P) → (all_staged cs m).version ≡ m.version
  staged-version [] m = refl
  staged-version (c ∷ cs) m = staged-version cs (staging c.0 c.1 m)

  staged-versions : (cs : List (ℕ × P)) (m : Meaning P) → (all_staged cs m).versions ≡ m.versions
  staged-versions [] m = refl
  staged-versions (c ∷ cs) m = staged-versions cs (staging c.0 c.1 m)

  staged-latest : (cs : List (ℕ × P)) (m : Meaning P) → (all_staged cs m).latest ≡ written cs m.latest
  staged-latest [] m = refl
  staged-latest (c ∷ cs) m = staged-latest cs (staging c.0 c.1 m)

  staged-staged : (cs : List (ℕ × P)) (m : Meaning P) → (all_staged cs m).staged ≡ marked (numbers_of cs) m.staged
  staged-staged [] m = refl
  staged-staged (c ∷ cs) m = staged-staged cs (staging c.0 c.1 m)

  -- a whole state is staged
  pub nothing_staged : (m : Meaning P) → IsStaging m m
  nothing_staged m = record { is_open = refl; version = refl; committed = refl; versions = refl }

  pub staging_more : (m n now : Meaning P) (e : ℕ) (x : P) → IsStaging m n → now ≡ staging e x n → IsStaging m now
  staging_more m n now e x so_far is = record {
    is_open = ap (λ (k : Meaning P). k.is_open) is ∙ so_far.is_open;
    version = ap (λ (k : Meaning P). k.version) is ∙ so_far.version;
    committed = ap (λ (k : Meaning P). k.committed) is ∙ so_far.committed;
    versions = ap (λ (k : Meaning P). k.versions) is ∙ so_far.versions;
  }

  pub flags_more : (m n now : Meaning P) (e : ℕ) (x : P) → e < length m.staged → now ≡ staging e x n → n.staged ≡ replicate e true ++ drop e m.staged → now.staged ≡ replicate (e + 1) true ++ drop (e + 1) m.staged
  flags_more m n now e x within is so_far = ap (λ (k : Meaning P). k.staged) is ∙ ap (λ (l : List Bool). set l e true) so_far ∙ one_more m.staged e within

  pub flags_all : (m now : Meaning P) (e : ℕ) → length m.staged ≡ e → now.staged ≡ replicate e true ++ drop e m.staged → now.staged ≡ replicate e true
  flags_all m now e many is = is ∙ ap (λ (l : List Bool). replicate e true ++ l) (drop_past m.staged e (omega arith)) ∙ append_none (replicate e true)
    where
      append_none : (l : List Bool) → l ++ [] ≡ l
      append_none [] = refl
      append_none (b ∷ bs) = ap (λ (l : List Bool). b ∷ l) (append_none bs)

module _ {P Z : Type 0} where
  pub latest_more : (m n now : Meaning P) (state : List (Arc P Z)) (e : ℕ) (item copy : Arc P Z) → e < length state → item ≡ get_or state e item → arc_value copy ≡ arc_value item
      → length m.latest ≡ length state → now ≡ staging e (arc_value copy) n → n.latest ≡ take e (map arc_value state) ++ drop e m.latest
      → now.latest ≡ take (e + 1) (map arc_value state) ++ drop (e + 1) m.latest
  latest_more m n now state e item copy within is same long staged so_far =
      let many : length (map arc_value state) ≡ length state = length-map state arc_value in
      ap (λ (k : Meaning P). k.latest) staged ∙ ap (λ (l : List P). set l e (arc_value copy)) so_far
      ∙ ap (λ (x : P). set (take e (map arc_value state) ++ drop e m.latest) e x) same
      ∙ overwrite (map arc_value state) m.latest e (arc_value item) (omega arith) (long ∙ sym many) (get_mapped arc_value state e item within is)

  pub latest_all : (m now : Meaning P) (state : List (Arc P Z)) (e : ℕ) → length state ≡ e → length m.latest ≡ e → now.latest ≡ take e (map arc_value state) ++ drop e m.latest → now.latest ≡ map arc_value state
  latest_all m now state e whole long is =
      let many : length (map arc_value state) ≡ length state = length-map state arc_value in
      is ∙ ap (λ (l : List P). take e (map arc_value state) ++ l) (drop_past m.latest e (omega arith)) ∙ take_all (map arc_value state) e (omega arith)

module _ {P : Type 0} (fits : ℕ → P → ℕ → P → Type 0) where
  -- while no transaction is open, the latest payloads are the committed ones
  latest-closed : (m : Meaning P) → IsSound fits m → m.is_open ≡ false → m.latest ≡ m.committed
  latest-closed m sound closed = same_list m.latest m.committed sound.as_many.0 (λ e h. sound.unstaged e (ap (λ (l : List Bool). slice_get l e) (sound.closed closed) ∙ get-none_of m.staged e (let a = sound.as_many in omega arith)))

  -- what is given up leaves no trace
  pub undone : (m : Meaning P) (cs : List (ℕ × P)) → IsSound fits m → m.is_open ≡ false → after_rollback (all_staged cs (opened m)) ≡ m
  undone m cs sound closed =
      let bare = ap none_of (staged-staged cs (opened m)) ∙ (none_of-length (marked (numbers_of cs) m.staged) m.staged (length-marked (numbers_of cs) m.staged) ∙ sym (sound.closed closed)) in
      λ j. record {
        version = staged-version cs (opened m) j;
        is_open = sym closed j;
        committed = staged-committed cs (opened m) j;
        latest = (staged-committed cs (opened m) ∙ sym (latest-closed m sound closed)) j;
        versions = staged-versions cs (opened m) j;
        staged = bare j;
      }

  -- what is committed changes the entities that it names
  pub done : (m : Meaning P) (cs : List (ℕ × P)) → IsSound fits m → m.is_open ≡ false → Committed cs m (after_commit (all_staged cs (opened m)))
  done m cs sound closed =
      let v = staged-version cs (opened m) in let s = staged-staged cs (opened m) in let n = staged-versions cs (opened m) in
      let l : (all_staged cs (opened m)).latest ≡ written cs m.committed = staged-latest cs (opened m) ∙ ap (written cs) (latest-closed m sound closed) in
      let marks : stamped ((all_staged cs (opened m)).version + 1) (all_staged cs (opened m)).staged (all_staged cs (opened m)).versions ≡ stamped (m.version + 1) (marked (numbers_of cs) m.staged) m.versions = λ j. stamped (v j + 1) (s j) (n j) in
      record {
        version = ap (λ k. k + 1) v;
        is_open = refl;
        committed = l;
        others = λ e h. (ap (λ (xs : List P). slice_get xs e) l ∙ written_else cs m.committed e h, ap (λ (xs : List ℕ). slice_get xs e) marks ∙ kept e h);
        raised = λ e below h. ap (λ (xs : List ℕ). slice_get xs e) marks ∙ (let a = sound.as_many in stamped_here (m.version + 1) (marked (numbers_of cs) m.staged) m.versions e (omega arith) (marked_here (numbers_of cs) m.staged e (omega arith) h)) ∙ ap (λ k. Some (k + 1)) (sym v);
      }
    where
      kept : (e : ℕ) → names (numbers_of cs) e ≡ false → slice_get (stamped (m.version + 1) (marked (numbers_of cs) m.staged) m.versions) e ≡ slice_get m.versions e
      kept e h = at (slice_get m.staged e) refl
        where
          bare : (bs : List Bool) (e : ℕ) → slice_get (none_of bs) e ≢ Some true
          bare [] e z = none_some true z
          bare (b ∷ bs) zero z = let y : Some false ≡ Some true = z in cc
          bare (b ∷ bs) (suc e) z = bare bs e z

          at : (o : Option Bool) → slice_get m.staged e ≡ o → slice_get (stamped (m.version + 1) (marked (numbers_of cs) m.staged) m.versions) e ≡ slice_get m.versions e
          at None is = stamped_past (m.version + 1) (marked (numbers_of cs) m.staged) m.versions e (marked_else (numbers_of cs) m.staged e h ∙ is)
          at (Some false) is = stamped_else (m.version + 1) (marked (numbers_of cs) m.staged) m.versions e (marked_else (numbers_of cs) m.staged e h ∙ is)
          at (Some true) is = absurd (bare m.staged e (ap (λ (l : List Bool). slice_get l e) (sym (sound.closed closed)) ∙ is))

  -- a transaction that is rolled back leaves the meaning that it began with
  pub given_up : (was begun m back : Meaning P) → IsSound fits was → IsSound fits m → was.is_open ≡ false → begun ≡ opened was → IsStaging begun m → back ≡ after_rollback m → back ≡ was
  given_up was begun m back sound sound' closed begins staged is = is ∙ (λ i. record {
    version = only.version i;
    is_open = sym closed i;
    committed = only.committed i;
    latest = (only.committed ∙ sym (latest-closed was sound closed)) i;
    versions = only.versions i;
    staged = (none_of-length m.staged was.staged long ∙ sym (sound.closed closed)) i;
  })
    where
      only : IsStaging (opened was) m
      only = subst (λ (k : Meaning P). IsStaging k m) begins staged

      long : length m.staged ≡ length was.staged
      long = sound'.as_many.2 ∙ ap length only.committed ∙ sym sound.as_many.2

  -- a state that is staged whole is committed
  pub committed_whole : (was begun m now : Meaning P) (state : List P) (n : ℕ) → IsSound fits was → begun ≡ opened was → IsStaging begun m → m.latest ≡ state → m.staged ≡ replicate n true → length state ≡ n → length state ≡ length was.committed → now ≡ after_commit m → now ≡ with_state state was
  committed_whole was begun m now state n sound begins staged latest flags many whole is = is ∙ (λ i. record {
    version = only.version i + 1;
    is_open = false;
    committed = latest i;
    latest = latest i;
    versions = ((λ j. stamped (only.version j + 1) ((flags ∙ ap (λ k. replicate k true) (sym many)) j) (only.versions j)) ∙ stamped_all (was.version + 1) (length state) was.versions (sound.as_many.1 ∙ sym whole)) i;
    staged = (ap none_of (flags ∙ ap (λ k. replicate k true) (sym many)) ∙ none_of-all (length state)) i;
  })
    where
      only : IsStaging (opened was) m
      only = subst (λ (k : Meaning P). IsStaging k m) begins staged

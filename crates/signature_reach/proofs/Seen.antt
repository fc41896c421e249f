-- What comes of looking at one path.
use Rattle.std.proofs.Common.{◌≡◌, ℕ, ◌+◌, ◌≤◌, Bool, true, false, cond, not, ◌||◌, List, [], ◌∷◌, ◌++◌, length, length-append, Option, Some, None, refl, sym, ap, ◌∙◌, subst, bytes_eq, arith, append-nil}
use Rattle.std.specs.Prelude.{if◌then◌else◌, Result, Ok, Err, OnOk}
use Rattle.std.specs.BTreeSet.{BTreeSet, contains, Updates}
use Rattle.std.specs.Ordering.{nat_cmp}
use Rattle.std.specs.Cmp.Lexicographic.{slice_cmp, bytes_decides}
use Rattle.std.proofs.lemmas.Bool.{false≢true}
use Rattle.std.proofs.lemmas.Map.Text.{is_eq-slice_cmp}
use Rattle.std.proofs.lemmas.Option.{none-some}
use Rattle.check_values.specs.Rows.{Bytes, Rows, row_at, is_among}
use Rattle.check_values.specs.declared.signatures.Sig.{Sig}
use Rattle.errors_by_reach.specs.Seen.{Sigs}
use Rattle.signature_reach.specs.Along.{IsMet, Knows, unseen, Grows}

abbrev has : BTreeSet Bytes → Bytes → Bool
has seen path = contains (slice_cmp nat_cmp) seen path

-- the set has one path more
abbrev pub HasMore : BTreeSet Bytes → Bytes → BTreeSet Bytes → Type 0
HasMore seen path later = (q : Bytes) → has later q ≡ cond (bytes_eq path q) true (has seen q)

more_of : (seen later : BTreeSet Bytes) (path : Bytes) → Updates (slice_cmp nat_cmp) seen later path true → HasMore seen path later
more_of seen later path updates = λ q. updates.0 q ∙ ap (λ (b : Bool). cond b true (has seen q)) (is_eq-slice_cmp path q)

-- ---- how many were not looked at

abbrev open_in : Bool → ℕ
open_in looked = if looked then 0 else 1

module _ (seen later : BTreeSet Bytes) (path : Bytes) (more : HasMore seen path later) where
  one_rest : (b c d : Bool) → d ≡ cond b true c → open_in d ≤ open_in c
  one_rest true true d is = let e : open_in d ≡ 0 = ap open_in is in omega (arith, e)
  one_rest true false d is = let e : open_in d ≡ 0 = ap open_in is in omega (arith, e)
  one_rest false c d is = let e : open_in d ≡ open_in c = ap open_in is in omega (arith, e)

  pub no_more_left : (ms : List Bytes) → unseen later ms ≤ unseen seen ms
  no_more_left [] = omega arith
  no_more_left (m ∷ ms) =
      let here = one_rest (bytes_eq path m) (has seen m) (has later m) (more m) in
      let rest = no_more_left ms in omega arith

  -- one less, where the path is a module's that was not looked at yet
  pub one_less : has seen path ≡ false → (ms : List Bytes) → is_among ms path ≡ true → unseen later ms + 1 ≤ unseen seen ms
  one_less new [] among = absurd (false≢true among)
  one_less new (m ∷ ms) among = go (bytes_eq path m) refl among (one_less new ms)
    where
      go : (b : Bool) → bytes_eq path m ≡ b → b || is_among ms path ≡ true → (is_among ms path ≡ true → unseen later ms + 1 ≤ unseen seen ms) → unseen later (m ∷ ms) + 1 ≤ unseen seen (m ∷ ms)
      go true same is less =
          let here : has later m ≡ true = more m ∙ ap (λ (b : Bool). cond b true (has seen m)) same in
          let before : has seen m ≡ false = ap (has seen) (sym ((bytes_decides path m).0 same)) ∙ new in
          let e : open_in (has later m) ≡ 0 = ap open_in here in
          let f : open_in (has seen m) ≡ 1 = ap open_in before in
          let rest = no_more_left ms in omega (arith, e, f, rest)
      go false differ is less =
          let here : has later m ≡ has seen m = more m ∙ ap (λ (b : Bool). cond b true (has seen m)) differ in
          let e : open_in (has later m) ≡ open_in (has seen m) = ap open_in here in
          let rest = less is in omega (arith, e, rest)

-- ---- one row more

abbrev row_or : Option Sig → Bytes → Sig → Bytes → Option Sig
row_or (Some t) path s q = Some t
row_or None path s q = if bytes_eq path q then Some s else None

row_more : (rows : Rows Sig) (path : Bytes) (s : Sig) (q : Bytes) → row_at (rows ++ (path, s) ∷ []) q ≡ row_or (row_at rows q) path s q
row_more [] path s q = refl
row_more (row ∷ rows) path s q = go (bytes_eq row.0 q) (row_more rows path s q)
  where
    go : (b : Bool) → row_at (rows ++ (path, s) ∷ []) q ≡ row_or (row_at rows q) path s q → (if b then Some row.1 else row_at (rows ++ (path, s) ∷ []) q) ≡ row_or (if b then Some row.1 else row_at rows q) path s q
    go true rest = refl
    go false rest = rest

module _ (sigs : Sigs) (rows : Rows Sig) (path : Bytes) (s : Sig) (sound : (p : Bytes) (t : Sig) → row_at rows p ≡ Some t → sigs p ≡ Some t) (says : sigs path ≡ Some s) where
  abbrev longer : Rows Sig
  longer = rows ++ (path, s) ∷ []

  row_here : (q : Bytes) (o : Option Sig) → row_at rows q ≡ o → row_at longer q ≡ row_or o path s q
  row_here q o is = row_more rows path s q ∙ ap (λ (x : Option Sig). row_or x path s q) is

  still_met : (q : Bytes) (o : Option Sig) → row_at rows q ≡ o → sigs q ≡ o → row_at longer q ≡ o
  still_met q (Some t) is told = row_here q (Some t) is
  still_met q None is told = row_here q None is ∙ go (bytes_eq path q) refl
    where
      go : (b : Bool) → bytes_eq path q ≡ b → (if b then Some s else None) ≡ None
      go false e = refl
      go true e = absurd (none-some s (sym told ∙ (ap sigs (sym ((bytes_decides path q).0 e)) ∙ says)))

  met_stays : (q : Bytes) → IsMet sigs rows q → IsMet sigs longer q
  met_stays q met = still_met q (sigs q) met refl ∙ refl

  now_met : IsMet sigs longer path
  now_met = go (row_at rows path) refl
    where
      go : (o : Option Sig) → row_at rows path ≡ o → row_at longer path ≡ sigs path
      go (Some t) is = row_here path (Some t) is ∙ sym (sound path t is)
      go None is = row_here path None is ∙ ap (λ b. if b then Some s else None) ((bytes_decides path path).1 refl) ∙ sym says

  still_sound : (q : Bytes) (t : Sig) → row_at longer q ≡ Some t → sigs q ≡ Some t
  still_sound q t is = go (row_at rows q) refl
    where
      none_then : (b : Bool) → bytes_eq path q ≡ b → (if b then Some s else None) ≡ Some t → sigs q ≡ Some t
      none_then true e same = ap sigs (sym ((bytes_decides path q).0 e)) ∙ (says ∙ same)
      none_then false e none = absurd (none-some t none)

      go : (o : Option Sig) → row_at rows q ≡ o → sigs q ≡ Some t
      go (Some u) there = sound q u there ∙ (sym (row_here q (Some u) there) ∙ is)
      go None none = none_then (bytes_eq path q) refl (sym (row_here q None none) ∙ is)

-- ---- what was looked at

module _ (sigs : Sigs) (ms : List Bytes) (path : Bytes) (seen later : BTreeSet Bytes) (rows : Rows Sig) (known : Knows sigs seen rows) (more : HasMore seen path later) where
  -- with rows that say what all do
  known_more : (now : Rows Sig) → ((p : Bytes) (t : Sig) → row_at now p ≡ Some t → sigs p ≡ Some t) → ((q : Bytes) → IsMet sigs rows q → IsMet sigs now q) → IsMet sigs now path → Knows sigs later now
  known_more now sound stays here = record {
    sound = sound;
    met = λ q is. go q (bytes_eq path q) refl is;
  }
    where
      go : (q : Bytes) (b : Bool) → bytes_eq path q ≡ b → has later q ≡ true → IsMet sigs now q
      go q true e is = subst (IsMet sigs now) ((bytes_decides path q).0 e) here
      go q false e is = stays q (known.met q (sym (more q ∙ ap (λ (b : Bool). cond b true (has seen q)) e) ∙ is))

  -- no row came
  pub grown_none : IsMet sigs rows path → Grows sigs ms seen rows later rows
  grown_none here = record {
    known = known_more rows known.sound (λ q met. met) here;
    behind = ([], sym (append-nil rows));
    stays = λ q met. met;
    left = let l = no_more_left seen later path more ms in omega (arith, l);
  }

  -- one came
  pub grown_one : (s : Sig) → sigs path ≡ Some s → has seen path ≡ false → is_among ms path ≡ true → Grows sigs ms seen rows later (rows ++ (path, s) ∷ [])
  grown_one s says new among = record {
    known = known_more (rows ++ (path, s) ∷ []) (still_sound sigs rows path s known.sound says) (met_stays sigs rows path s known.sound says) (now_met sigs rows path s known.sound says);
    behind = ((path, s) ∷ [], refl);
    stays = met_stays sigs rows path s known.sound says;
    left =
        let l = one_less seen later path more new ms among in
        let n : length (rows ++ (path, s) ∷ []) ≡ length rows + 1 = length-append rows ((path, s) ∷ []) in
        omega (arith, l, n);
  }

-- what none says no row does
pub nothing_met : (sigs : Sigs) (seen : BTreeSet Bytes) (rows : Rows Sig) (path : Bytes) → Knows sigs seen rows → None ≡ sigs path → IsMet sigs rows path
nothing_met sigs seen rows path known none = go (row_at rows path) refl
  where
    go : (o : Option Sig) → row_at rows path ≡ o → row_at rows path ≡ sigs path
    go None is = is ∙ none
    go (Some t) is = absurd (none-some t (none ∙ known.sound path t is))

-- ---- as the code has it

module _ (sigs : Sigs) (ms : List Bytes) (path asked : Bytes) (seen later : BTreeSet Bytes) (rows : Rows Sig) (same : asked ≡ path) (known : Knows sigs seen rows) (updates : Updates (slice_cmp nat_cmp) seen later asked true) where
  abbrev grew : HasMore seen path later
  grew = more_of seen later path (subst (λ (p : Bytes). Updates (slice_cmp nat_cmp) seen later p true) same updates)

  -- it was looked at before
  pub again_grows : has seen asked ≡ true → Grows sigs ms seen rows later rows
  again_grows old = grown_none sigs ms path seen later rows known grew (known.met path (ap (has seen) (sym same) ∙ old))

  -- it is no module's
  pub none_grows : None ≡ sigs path → Grows sigs ms seen rows later rows
  none_grows none = grown_none sigs ms path seen later rows known grew (nothing_met sigs seen rows path known none)

  -- it is a module's
  pub one_grows : (shared : Bytes) (s : Sig) (now : Rows Sig) → shared ≡ path → Some s ≡ sigs path → has seen asked ≡ false → is_among ms path ≡ true → now ≡ rows ++ (shared, s) ∷ [] → Grows sigs ms seen rows later now
  one_grows shared s now is says new among pushed =
      subst (Grows sigs ms seen rows later) (sym (pushed ∙ (λ i. rows ++ (is i, s) ∷ [])))
      (grown_one sigs ms path seen later rows known grew s (sym says) (ap (has seen) (sym same) ∙ new) among)

  pub one_met : (shared : Bytes) (s : Sig) (now : Rows Sig) → shared ≡ path → Some s ≡ sigs path → now ≡ rows ++ (shared, s) ∷ [] → IsMet sigs now path
  one_met shared s now is says pushed =
      subst (λ (l : Rows Sig). IsMet sigs l path) (sym (pushed ∙ (λ i. rows ++ (is i, s) ∷ []))) (now_met sigs rows path s known.sound (sym says))

-- what was added was not there
pub not_there : (added there : Bool) → added ≡ not there → added ≡ true → there ≡ false
not_there added true is on = absurd (false≢true (sym is ∙ on))
not_there added false is on = refl

-- what follows where a call succeeds
pub ok_then : {A E P Q : Type 0} (r : Result A E) → (P → Q) → OnOk r P → OnOk r Q
ok_then (Ok x) f told = f told
ok_then (Err e) f told = told

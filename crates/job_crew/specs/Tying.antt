-- How the places of workers are tied together: by links, which have parts of the right to know all of a deque.
use Rattle.std.specs.Prelude.{◌≡◌, ℕ, zero, suc, ◌+◌, List, [], ◌∷◌, length, map, sum_by}
use Rattle.std.specs.List.{AllByRecursion, AllZip}
use Rattle.std.specs.declared.alloc.Global.{Global}
use Rattle.atomic_blocks.specs.Lent.{RowsId}
use Rattle.crossbeam_deque.specs.Handles.{stealer_deque, worker_view, worker_deque, worker_flavor}
use Rattle.number_draws.specs.declared.hand.Hand.{Hand}
use Rattle.number_draws.specs.Hands.{all_parts}
use Rattle.job_seats.specs.declared.place.Link.{Link}
use Rattle.job_seats.specs.declared.place.Seat.{Seat}
use Rattle.job_seats.specs.Seats.{link_view, IsLink, IsBelow}
use Rattle.job_seats.specs.Left.{IsWhole}

-- which deque it is
abbrev pub DequeId : Type 0
DequeId = RowsId × Global

-- these are links to the first deques, in order, each with one part
abbrev pub AreLinks : List Link → List DequeId → Type 0
AreLinks [] ids = Unit {0}
AreLinks (l ∷ links) [] = ⊥
AreLinks (l ∷ links) (id ∷ ids) = IsLink l × (stealer_deque l.thief ≡ id) × ((link_view l).parts ≡ 1) × AreLinks links ids

-- what was taken by links weighs so much
abbrev pub links_weight : (ℕ → ℕ) → List Link → ℕ
links_weight h links = sum_by (λ (l : Link). sum_by h (link_view l).taken) links

module _ {X : Type 0} where
  abbrev pub own_view : Seat X → Hand
  own_view s = worker_view s.own

  abbrev pub own_id : Seat X → DequeId
  own_id s = worker_deque s.own

  abbrev pub kept_of : Seat X → List (ℕ × X)
  kept_of s = s.kept.items

  -- the same deque, with the same numbers put, and the same answers kept
  pub record SameOwn (s t : Seat X) : Type 0 where
    pub id : own_id t ≡ own_id s
    pub flavor : worker_flavor t.own ≡ worker_flavor s.own
    pub put : (own_view t).put ≡ (own_view s).put
    pub kept : kept_of t ≡ kept_of s

  -- and the same links
  pub record SamePlace (s t : Seat X) : Type 0 where
    pub own : SameOwn s t
    pub links : t.links ≡ s.links

  -- and as much was taken from it
  pub record SameTaken (s t : Seat X) : Type 0 where
    pub place : SamePlace s t
    pub taken : (own_view t).taken ≡ (own_view s).taken

  -- and the same is known of it
  pub record SameView (s t : Seat X) : Type 0 where
    pub place : SamePlace s t
    pub view : own_view t ≡ own_view s

  -- the deque has all parts again, and the place no link
  pub record IsGathered (s t : Seat X) : Type 0 where
    pub own : SameOwn s t
    pub links : t.links.items ≡ []
    pub whole : IsWhole (own_view t)

  -- each deque lacks so many of its parts, and the first ones one more
  abbrev pub LackParts : ℕ → ℕ → List (Seat X) → Type 0
  LackParts rows k [] = Unit {0}
  LackParts rows zero (s ∷ ss) = ((own_view s).parts + rows ≡ all_parts) × LackParts rows zero ss
  LackParts rows (suc k) (s ∷ ss) = ((own_view s).parts + (rows + 1) ≡ all_parts) × LackParts rows k ss

  -- the first places have so many links, and the others so many
  abbrev pub HaveLinks : ℕ → ℕ → ℕ → List (Seat X) → Type 0
  HaveLinks a b m [] = Unit {0}
  HaveLinks a b zero (s ∷ ss) = (length s.links.items ≡ b) × HaveLinks a b zero ss
  HaveLinks a b (suc m) (s ∷ ss) = (length s.links.items ≡ a) × HaveLinks a b m ss

  -- The links of each place are to the first deques; the first places have so many of them, and the others so many. Each deque lacks as
  -- many parts as there are rows of links.
  pub record AreTied (a b m rows : ℕ) (ss : List (Seat X)) : Type 0 where
    pub ties : AllByRecursion (λ (s : Seat X). AreLinks s.links.items (map own_id ss)) ss
    pub long : HaveLinks a b m ss
    pub parts : LackParts rows 0 ss

  -- numbers below the end were put, of which nothing was taken yet, and there is no answer
  pub record IsFresh (end : ℕ) (s : Seat X) : Type 0 where
    pub flavor : worker_flavor s.own ≡ 0
    pub below : IsBelow end (own_view s)
    pub taken : (own_view s).taken ≡ []
    pub kept : kept_of s ≡ []
    pub links_below : AllByRecursion (λ (l : Link). IsBelow end (link_view l)) s.links.items
    pub links_taken : AllByRecursion (λ (l : Link). (link_view l).taken ≡ []) s.links.items

  -- links to the first deques are made, each with one part
  pub record HasLinked (rows k : ℕ) (ss ts : List (Seat X)) (made : List Link) : Type 0 where
    pub same : AllZip SameTaken ss ts
    pub parts : LackParts rows k ts
    pub links : AreLinks made (map own_id ss)
    pub many : length made ≡ k
    pub below : (end : ℕ) → AllByRecursion (λ (s : Seat X). IsBelow end (own_view s)) ss → AllByRecursion (λ (l : Link). IsBelow end (link_view l)) made
    pub taken : AllByRecursion (λ (l : Link). (link_view l).taken ≡ []) made

  -- the first places have links to all deques
  pub record HasRows (workers me : ℕ) (ss ts : List (Seat X)) : Type 0 where
    pub many : length ts ≡ workers
    pub tied : AreTied workers 0 me me ts
    pub fresh : (end : ℕ) → AllByRecursion (IsFresh end) ss → AllByRecursion (IsFresh end) ts
    pub put : (h : ℕ → ℕ) → sum_by (λ t. sum_by h (own_view t).put) ts ≡ sum_by (λ s. sum_by h (own_view s).put) ss

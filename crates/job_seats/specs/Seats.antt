-- What a worker's place is, and what was drawn there.
use Rattle.std.specs.Prelude.{◌≡◌, ℕ, ◌+◌, ◌<◌, List, sum_by}
use Rattle.std.specs.List.{AllByRecursion, AllZip}
use Rattle.crossbeam_deque.specs.Handles.{view, IsPassOf, stealer_deque, worker_view, worker_flavor, worker_deque}
use Rattle.number_draws.specs.declared.hand.Hand.{Hand}
use Rattle.job_seats.specs.declared.place.Link.{Link}
use Rattle.job_seats.specs.declared.place.Seat.{Seat}

-- what a link's pass knows
abbrev pub link_view : Link → Hand
link_view l = view l.pass

-- the pass is one of this thief's deque, and has a part
pub record IsLink (l : Link) : Type 0 where
  pub tied : IsPassOf (stealer_deque l.thief) l.pass
  pub part : 0 < (link_view l).parts

-- it is a pass of the same deque, with as many parts, which knows of the same numbers
pub record SameLink (l l' : Link) : Type 0 where
  pub right : IsLink l'
  pub deque : stealer_deque l'.thief ≡ stealer_deque l.thief
  pub parts : (link_view l').parts ≡ (link_view l).parts
  pub put : (link_view l').put ≡ (link_view l).put

-- all numbers that were put are below the end
abbrev pub IsBelow : ℕ → Hand → Type 0
IsBelow end v = AllByRecursion (λ i. i < end) v.put

module _ {X : Type 0} where
  -- a place from whose deques numbers below the end can be drawn
  pub record IsSeat (end : ℕ) (s : Seat X) : Type 0 where
    pub flavor : worker_flavor s.own ≡ 0
    pub part : 0 < (worker_view s.own).parts
    pub below : IsBelow end (worker_view s.own)
    pub links : AllByRecursion IsLink s.links.items
    pub links_below : AllByRecursion (λ (l : Link). IsBelow end (link_view l)) s.links.items

  -- how much what was taken weighs, from all deques together
  abbrev pub weight : (ℕ → ℕ) → Seat X → ℕ
  weight h s = sum_by h (worker_view s.own).taken + sum_by (λ (l : Link). sum_by h (link_view l).taken) s.links.items

  -- These numbers were drawn, each from one of the deques.
  pub record Drew (s s' : Seat X) (numbers : List ℕ) : Type 0 where
    pub deque : worker_deque s'.own ≡ worker_deque s.own
    pub parts : (worker_view s'.own).parts ≡ (worker_view s.own).parts
    pub put : (worker_view s'.own).put ≡ (worker_view s.own).put
    pub links : AllZip SameLink s.links.items s'.links.items
    pub taken : (h : ℕ → ℕ) → weight h s' ≡ weight h s + sum_by h numbers

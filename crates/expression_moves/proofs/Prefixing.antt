-- Marks before an expression, the last one first.
use Rattle.std.proofs.Common.{◌≡◌, ◌≤◌, ◌<◌, ◌+◌, ℕ, List, [], ◌∷◌, ◌++◌, length, take, get_or, refl, sym, ap, ◌∙◌, arith}
use Rattle.std.proofs.lemmas.List.{take_all, take_more}
use Rattle.js_grammar.specs.Code.{Prefixes, no_prefix, more_prefix}
use Rattle.code_tree.specs.Flat.{prefix_view, prefixes_from, prefixes_view}
use Rattle.code_tree.specs.declared.types.PrefixMark.{PrefixMark}
use Rattle.typing.specs.States.{World, noted_out}
use Rattle.typing.specs.Forms.{prefix_out, prefixes_out}
use Rattle.fact_ways.specs.Ways.{Fits}
use Rattle.check_moves.specs.declared.state.State.{State}
use Rattle.check_moves.specs.declared.state.Read.{Read}
use Rattle.check_moves.specs.View.{around, told}
use Rattle.check_moves.specs.Follows.{Follows}
use Rattle.check_moves.proofs.Following.{follows_notes, follows_through}

from_last : (ps : Prefixes) (ms : List PrefixMark) (m : PrefixMark) → prefixes_from ps (ms ++ m ∷ []) ≡ more_prefix (prefixes_from ps ms) m.at (prefix_view m.prefix)
from_last ps [] m = refl
from_last ps (n ∷ ms) m = from_last (more_prefix ps n.at (prefix_view n.prefix)) ms m

view_more : (marks : List PrefixMark) (i : ℕ) (m : PrefixMark) → i < length marks → m ≡ get_or marks i m → prefixes_view (take (i + 1) marks) ≡ more_prefix (prefixes_view (take i marks)) m.at (prefix_view m.prefix)
unfolding prefixes_view
view_more marks i m within at =
    ap (prefixes_from no_prefix) (take_more marks i m within ∙ ap (λ (x : PrefixMark). take i marks ++ x ∷ []) (sym at)) ∙ from_last no_prefix (take i marks) m

-- Some marks were read, the last ones first, and the first i ones are left.
pub record MarksRead (w : World) (marks : List PrefixMark) (first t : ℕ) (read : Read) (a : State) (i from : ℕ) (r : Read) (b : State) : Type 0 where
  pub within : i ≤ length marks
  pub outcome : prefixes_out w (prefixes_view (take i marks)) from t (told r b) ≡ prefixes_out w (prefixes_view marks) first t (told read a)
  pub same : around b ≡ around a
  pub follows : Follows read.fork a r.fork b

pub marks_none : (w : World) (marks : List PrefixMark) (first t : ℕ) (read : Read) (a : State) → Fits read.fork a.facts → MarksRead w marks first t read a (length marks) first read a
marks_none w marks first t read a fits = record {
  within = omega arith;
  outcome = ap (λ (ms : List PrefixMark). prefixes_out w (prefixes_view ms) first t (told read a)) (take_all (length marks) marks (omega arith));
  same = refl;
  follows = follows_notes read.fork a a refl refl fits;
}

pub marks_one : (w : World) (marks : List PrefixMark) (first t : ℕ) (read : Read) (a : State) (n i from : ℕ) (m : PrefixMark) (r s u : Read) (b c d : State) → MarksRead w marks first t read a n from r b →
    n ≡ i + 1 → m ≡ get_or marks i m → told s c ≡ prefix_out w (prefix_view m.prefix) from t (told r b) → around c ≡ around b → Follows r.fork b s.fork c →
    told u d ≡ noted_out w m.at t (told s c) → around d ≡ around c → Follows s.fork c u.fork d → MarksRead w marks first t read a i m.at u d
marks_one w marks first t read a n i from m r s u b c d before next at marked stays goes noted keeps ends =
    let within : n ≤ length marks = before.within in
    let inside : i < length marks = omega (arith, next, within) in
    record {
      within = omega (arith, next, within);
      outcome =
          ap (prefixes_out w (prefixes_view (take i marks)) m.at t) (noted ∙ ap (noted_out w m.at t) marked)
          ∙ ap (λ ps. prefixes_out w ps from t (told r b)) (sym (view_more marks i m inside at))
          ∙ ap (λ k. prefixes_out w (prefixes_view (take k marks)) from t (told r b)) (sym next)
          ∙ before.outcome;
      same = keeps ∙ stays ∙ before.same;
      follows = follows_through read.fork r.fork u.fork a b d before.follows (follows_through r.fork s.fork u.fork b c d goes ends);
    }

pub marks_all : (w : World) (marks : List PrefixMark) (first t : ℕ) (read : Read) (a : State) (i from : ℕ) (r : Read) (b : State) → MarksRead w marks first t read a i from r b → i ≡ 0 →
    told r b ≡ prefixes_out w (prefixes_view marks) first t (told read a)
unfolding prefixes_view
marks_all w marks first t read a i from r b before none =
    ap (λ k. prefixes_out w (prefixes_from no_prefix (take k marks)) from t (told r b)) (sym none) ∙ before.outcome

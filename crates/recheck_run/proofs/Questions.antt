-- A yes comes at the question that is told.
use Rattle.std.proofs.Common.{◌≡◌, ℕ, Bool, Option, Some, None, subst}
use Rattle.std.specs.Prelude.{IsTrue}
use Rattle.flow_base.specs.Causes.{raised, Counts}
use Rattle.flow_base.specs.Outside.{WhereTold}
use Rattle.stops.specs.Asked.{StopSeen, yes_answers_by}
use Rattle.stops.proofs.Asking.{says_yes_at_its_question}

-- where it tells its question, it has said yes as often as that says
abbrev KeepsWord : StopSeen → Type 0
KeepsWord one = WhereTold one.told (λ question. one.yes_answers ≡ yes_answers_by question one.questions)

pub yes_at : (told : Option ℕ) (before now : StopSeen) (said : Bool) → before.told ≡ told → now.told ≡ told → KeepsWord before → KeepsWord now → now.questions ≡ raised before.questions
    → Counts (IsTrue said) before.yes_answers now.yes_answers → IsTrue said → WhereTold told (λ question. now.questions ≡ question)
yes_at None before now said was is word word' asked counts is_yes = tt
yes_at (Some k) before now said was is word word' asked counts is_yes =
    let first : before.yes_answers ≡ yes_answers_by k before.questions = subst (λ t. WhereTold t (λ question. before.yes_answers ≡ yes_answers_by question before.questions)) was word in
    let next : now.yes_answers ≡ yes_answers_by k now.questions = subst (λ t. WhereTold t (λ question. now.yes_answers ≡ yes_answers_by question now.questions)) is word' in
    let counted : Counts (IsTrue said) (yes_answers_by k before.questions) (yes_answers_by k now.questions) =
    subst (λ n. Counts (IsTrue said) (yes_answers_by k before.questions) n) next (subst (λ n. Counts (IsTrue said) n now.yes_answers) first counts) in
    ((says_yes_at_its_question k before.questions now.questions said asked counted).0 is_yes).1

use Rattle.std.proofs.Common.{sym, ◌∙◌}
use Rattle.std.proofs.lemmas.Bool.{false≢true}
use Rattle.script_run.proofs.Asked.{found_of_some, prints_told}
use Rattle.script_run.proofs.answering.told_text.Goals as goal

pub print_answer-requires : goal.print_answer-requires
print_answer-requires c =
    c.can_be_printed.ensures c.requires.0 c.args.ask.now c.args.told.now.answer
    (found_of_some c.args.ask.now c.args.told.now (λ is. false≢true (sym c.if-wants_memory.false ∙ c.wants_memory.ensures.1 is)) c.requires)

pub returns : goal.returns
returns c =
    prints_told c.args.ask.now c.args.told.now c.print_answer.result (λ is. false≢true (sym c.if-wants_memory.false ∙ c.wants_memory.ensures.1 is)) c.print_answer.ensures

use Rattle.std.proofs.Common.{rules, ◌≡◌, ◌∙◌, subst}
use Rattle.script_reader.specs.Lines.{HasLine, bytes_left}
use Rattle.script_reader.specs.Steps.{Reads}
use Rattle.script_reader.specs.declared.reader.Step.TheVariants.{More}
use Rattle.script_reader.proofs.Joins.{read_on}
use Rattle.script_reader.proofs.reader.LineReader.next.Goals as goal

pub loop-line-preserved : goal.loop-line-preserved
loop-line-preserved g c =
    let more : c.loop-line.step ≡ More = search rules in
    let none : HasLine c.args.self.now → ⊥ = λ line. cc (c.loop-line.invariant.at_once line, more) in
    let left = bytes_left c.args.self.now (g.S.Source.seen c.args.source.now).left in
    let mid = bytes_left c.loop-line.self-inside.window (g.S.Source.seen c.loop-line.source).left in
    record {
      reads = read_on _ _ _ left mid _ (subst (λ step. Reads step c.loop-line.line.items left mid) more c.loop-line.invariant.reads) c.in_ok-step-2.ensures.step;
      faults = c.in_ok-step-2.ensures.counts.stays (search rules) ∙ c.loop-line.invariant.faults;
      at_once = λ line. absurd (none line);
      in_hand = λ line. absurd (none line);
    }

use Rattle.flowd_top.proofs.Transcripts.{some_transcript, same_transcript}
use Rattle.flowd_top.proofs.laws.one_transcript.Goals as goal

pub returns : goal.returns
returns c = record {
  some = λ words folder script lists.
      some_transcript c.each_edit_has_sizes.ensures c.one_quiet_run.ensures.some c.one_generated_run.ensures.some words folder script lists c.one_command.ensures.some;
  one = λ words folder script p q h k x y quiet is also.
      let same = same_transcript c.one_full.ensures c.one_quiet_run.ensures.one_end c.one_quiet_run.ensures.one c.one_command.ensures.one c.one_generated_run.ensures.one words folder script p q h k x y is also in
      let all = same.2 quiet in
      (all.0, same.0, all.1);
  one_end = λ words folder script p q h k x y is also.
      let same = same_transcript c.one_full.ensures c.one_quiet_run.ensures.one_end c.one_quiet_run.ensures.one c.one_command.ensures.one c.one_generated_run.ensures.one words folder script p q h k x y is also in
      (same.0, same.1);
}

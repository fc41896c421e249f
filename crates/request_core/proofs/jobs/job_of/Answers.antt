use Rattle.request_core.proofs.Making.{later_place, later_read, later_places, job_made}
use Rattle.request_core.proofs.jobs.job_of.Goals as goal

pub list_of-requires-clause-place : goal.list_of-requires-clause-place
list_of-requires-clause-place g c = later_place _ _ _ c.parse_of.ensures.same.1 c.requires.place

pub list_of-requires-clause-read : goal.list_of-requires-clause-read
list_of-requires-clause-read g c = later_read _ _ _ c.parse_of.ensures.same.1 c.requires.read

pub reached_table-requires-clause-placed : goal.reached_table-requires-clause-placed
reached_table-requires-clause-placed g c = later_places _ _ _ _ c.parse_of.ensures.same.1 c.list_of.ensures.same.1 c.requires.placed

pub returns-clause-job : goal.returns-clause-job
returns-clause-job g c =
    job_made (g.R.HeapReader.state c.args.reader.now) (g.R.HeapReader.state c.parse_of.new.reader) (g.R.HeapReader.state c.list_of.new.reader) c.args.modules.now c.args.«module».now _ c.in_ok-parse.parse c.in_ok-deps.deps c.get.result.now
    c.parse_of.ensures.same.1 c.list_of.ensures.same.1 c.in_ok-share.ensures (λ _. c.in_ok-parse.parse) (λ _. c.in_ok-deps.deps) c.in_ok-parse.ensures.parse c.in_ok-deps.ensures.deps c.get.ensures c.in_ok-sigs.ensures.agree

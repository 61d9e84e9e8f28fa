use Rattle.program_tests.proofs.WorkedStrip.{strip_ready_from}
use Rattle.program_tests.proofs.thin_bases.a_skew_strip_is_thin_across.Goals as goal

pub thin-requires-clause-ready : goal.thin-requires-clause-ready
thin-requires-clause-ready g c = strip_ready_from _ _ c.in_ok-system.ensures.0 c.in_ok-system.ensures.1

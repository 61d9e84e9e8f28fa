-- What reading words answers.
use Rattle.std.specs.Prelude.{◌≡◌, Option, Some, None, Result, Ok, Err}
use Rattle.solve_cli.specs.declared.words.Command.{Command}
use Rattle.solve_cli.specs.declared.words.Command.TheVariants as commands
use Rattle.solve_cli.specs.declared.words.Files.{Files}
use Rattle.solve_cli.specs.declared.words.WordsStop.{WordsStop}
use Rattle.solve_cli.specs.declared.words.WordsStop.TheVariants as stops
use Rattle.solve_cli.specs.Words.{Job, job, market_job, solving, checking}

abbrev pub job_view : Command → Job
job_view (commands.Solve layout upper nodes model proof) = job (solving nodes) layout upper model proof
job_view (commands.Check layout upper model proof) = job checking layout upper model proof
job_view (commands.Market m n start model proof) = market_job model proof m n start

-- the command that is there, or Words where there is none, unless memory ran out
abbrev pub GivesCommand : Result Command WordsStop → Option Job → Type 0
GivesCommand (Ok command) found = found ≡ Some (job_view command)
GivesCommand (Err stops.Words) found = found ≡ None
GivesCommand (Err stops.NoMemory) found = Unit {0}

-- and the same of the options and names behind the first word
abbrev pub GivesFiles : Result Files WordsStop → Option Files → Type 0
GivesFiles (Ok files) found = found ≡ Some files
GivesFiles (Err stops.Words) found = found ≡ None
GivesFiles (Err stops.NoMemory) found = Unit {0}

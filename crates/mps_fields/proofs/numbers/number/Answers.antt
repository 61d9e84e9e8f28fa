use Rattle.mps_fields.proofs.NumberLaws.{answers_from, no_number, number_fits, number_wide}
use Rattle.mps_fields.proofs.numbers.number.Goals as goal

pub returns-in_default : goal.returns-in_default
returns-in_default c =
    let text = c.args.text.now in
    let is = no_number text c.in_default.ensures in
    let answers = answers_from _ text is in
    record { value = is; ok = answers.ok; not_number = answers.not_number; wide = answers.wide }

pub returns-in-Some-value : goal.returns-in-Some-value
returns-in-Some-value c =
    let text = c.args.text.now in
    let is = number_fits c.in-Some.parts text c.in-Some-value.number c.in-Some.ensures c.in-Some-value.ensures in
    let answers = answers_from _ text is in
    record { value = is; ok = answers.ok; not_number = answers.not_number; wide = answers.wide }

pub returns-in-None : goal.returns-in-None
returns-in-None c =
    let text = c.args.text.now in
    let is = number_wide c.in-Some.parts text c.in-Some.ensures c.in-None.ensures in
    let answers = answers_from _ text is in
    record { value = is; ok = answers.ok; not_number = answers.not_number; wide = answers.wide }

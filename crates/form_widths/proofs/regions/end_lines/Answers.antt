use Rattle.form_widths.specs.LineLaws as Lines
use Rattle.form_widths.proofs.regions.end_lines.Goals as goal

pub returns-clause-past_end : goal.returns-clause-past_end
returns-clause-past_end c = Lines.past_end

pub returns-clause-least : goal.returns-clause-least
returns-clause-least c = Lines.least_value

pub returns-clause-greatest : goal.returns-clause-greatest
returns-clause-greatest c = Lines.greatest_value

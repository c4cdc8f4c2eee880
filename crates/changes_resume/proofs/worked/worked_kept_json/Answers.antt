use Rattle.std.proofs.Common.{refl}
use Rattle.feed_resume.specs.Kept.{lines}
use Rattle.changes_resume.specs.KeptJson.{kept_lines_back, kept_lines}
use Rattle.changes_resume.proofs.worked.worked_kept_json.Goals as goal

pub returns-clause-nothing : goal.returns-clause-nothing
unfolding lines kept_lines_back kept_lines
returns-clause-nothing c = refl

pub returns-clause-line_feed : goal.returns-clause-line_feed
unfolding lines kept_lines_back kept_lines
returns-clause-line_feed c = refl

pub returns-clause-one : goal.returns-clause-one
unfolding lines kept_lines_back kept_lines
returns-clause-one c = refl

pub returns-clause-truncated : goal.returns-clause-truncated
unfolding lines kept_lines_back kept_lines
returns-clause-truncated c = refl

pub returns-clause-two : goal.returns-clause-two
unfolding lines kept_lines_back kept_lines
returns-clause-two c = refl

pub returns-clause-two_truncated : goal.returns-clause-two_truncated
unfolding lines kept_lines_back kept_lines
returns-clause-two_truncated c = refl

pub returns-clause-last : goal.returns-clause-last
unfolding lines kept_lines_back kept_lines
returns-clause-last c = refl

pub returns-clause-whole : goal.returns-clause-whole
unfolding lines kept_lines_back kept_lines
returns-clause-whole c = refl

pub returns-clause-column : goal.returns-clause-column
unfolding lines kept_lines_back kept_lines
returns-clause-column c = refl

pub returns-clause-statement : goal.returns-clause-statement
unfolding lines kept_lines_back kept_lines
returns-clause-statement c = refl

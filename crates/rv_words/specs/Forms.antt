-- The forms of words, as the code has them.
use Rattle.rv_words.specs.declared.form.Form.{Form}
use Rattle.rv_words.specs.declared.form.Form.TheVariants.{Named, Joined, Other}
use Rattle.rv_words.specs.Reading as reading

abbrev pub form_of : Form → reading.Form
form_of (Named option) = reading.Named option
form_of (Joined option digits) = reading.Joined option digits.now
form_of Other = reading.Other

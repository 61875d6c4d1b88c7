-- Each example is read as its definition says, and no neighbour is.
use Rattle.ssap_grammar.proofs.ExampleReadings.{either_quote, empty_text, cdata_section, reference_in_text, spaces_in_tags, blank_text, one_message}
use Rattle.ssap_grammar.proofs.Neighbours.{quotes_agree, no_space_in_end, no_empty_word, no_small_cdata, no_capital_reference, no_space_before_name, one_name, one_node_id}
use Rattle.ssap_grammar.proofs.laws.worked_examples.Goals as goal

pub returns-clause-either_quote : goal.returns-clause-either_quote
returns-clause-either_quote c = either_quote

pub returns-clause-quotes_agree : goal.returns-clause-quotes_agree
returns-clause-quotes_agree c = quotes_agree

pub returns-clause-empty_text : goal.returns-clause-empty_text
returns-clause-empty_text c = empty_text

pub returns-clause-no_space_in_end : goal.returns-clause-no_space_in_end
returns-clause-no_space_in_end c = no_space_in_end

pub returns-clause-no_empty_word : goal.returns-clause-no_empty_word
returns-clause-no_empty_word c = no_empty_word

pub returns-clause-cdata_section : goal.returns-clause-cdata_section
returns-clause-cdata_section c = cdata_section

pub returns-clause-no_small_cdata : goal.returns-clause-no_small_cdata
returns-clause-no_small_cdata c = no_small_cdata

pub returns-clause-reference_in_text : goal.returns-clause-reference_in_text
returns-clause-reference_in_text c = reference_in_text

pub returns-clause-no_capital_reference : goal.returns-clause-no_capital_reference
returns-clause-no_capital_reference c = no_capital_reference

pub returns-clause-spaces_in_tags : goal.returns-clause-spaces_in_tags
returns-clause-spaces_in_tags c = spaces_in_tags

pub returns-clause-no_space_before_name : goal.returns-clause-no_space_before_name
returns-clause-no_space_before_name c = no_space_before_name

pub returns-clause-blank_text : goal.returns-clause-blank_text
returns-clause-blank_text c = blank_text

pub returns-clause-one_name : goal.returns-clause-one_name
returns-clause-one_name c = one_name

pub returns-clause-one_message : goal.returns-clause-one_message
returns-clause-one_message c = one_message

pub returns-clause-one_node_id : goal.returns-clause-one_node_id
returns-clause-one_node_id c = one_node_id

-- How long the parts of framed calls and of their answers are.
use Rattle.std.specs.Prelude.{ℕ, ◌*◌}

-- bytes of a call before its book or topology
abbrev pub head_length : ℕ
head_length = 44

-- bytes of an answer before its output buffer
abbrev pub reply_length : ℕ
reply_length = 13

-- the longest output buffer
abbrev pub most_room : ℕ
most_room = 16384

-- bytes of a record of a list, and of the longest further bytes
abbrev pub record_length : ℕ
record_length = 11

abbrev pub most_further : ℕ
most_further = 1100

-- the longest further bytes that a header can state, in 4 bytes
abbrev pub most_length : ℕ
most_length = 4294967295

-- words of the longest index, bytes of a word, and those of the index, which is the longest part of an answer
abbrev pub most_words : ℕ
most_words = 6500

abbrev pub word_length : ℕ
word_length = 8

abbrev pub most_part : ℕ
most_part = word_length * most_words

-- the longest report
abbrev pub most_report : ℕ
most_report = 4096

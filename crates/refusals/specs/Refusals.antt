-- The number of each refusal, and the words that an operator reads.
use Rattle.std.specs.Prelude.{ℕ, List, codes}
use Rattle.refusals.specs.declared.refusal.Refusal.{Refusal}
use Rattle.refusals.specs.declared.refusal.Refusal.TheVariants.{RuleLength, NotAForm, TooManyForms, TooDeep, NumberTooLarge, EmptyInterval, NormalFormTooLarge, TimeOverLimit, BrokenFile, LogFull, TimeFalls, MemoryTooShort, EventAbsent, OutputTooShort}

abbrev pub number_of : Refusal → ℕ
number_of RuleLength = 1
number_of NotAForm = 2
number_of TooManyForms = 3
number_of TooDeep = 4
number_of NumberTooLarge = 5
number_of EmptyInterval = 6
number_of NormalFormTooLarge = 7
number_of TimeOverLimit = 8
number_of BrokenFile = 9
number_of LogFull = 10
number_of TimeFalls = 11
number_of MemoryTooShort = 12
number_of EventAbsent = 13
number_of OutputTooShort = 14

abbrev pub words_of : Refusal → List ℕ
words_of RuleLength = codes "the rule text is empty or longer than 1,024 bytes"
words_of NotAForm = codes "the rule text is not a form"
words_of TooManyForms = codes "the rule has more than 64 forms"
words_of TooDeep = codes "the rule nests deeper than 32 forms"
words_of NumberTooLarge = codes "a number in the rule is above 1,000,000,000"
words_of EmptyInterval = codes "an interval's lower end is above its upper end, or equal to it and not 0"
words_of NormalFormTooLarge = codes "the rule's normal form has more than 64 forms"
words_of TimeOverLimit = codes "the event's time is above 4,000,000,000,000 milliseconds"
words_of BrokenFile = codes "the log file is damaged or holds no lawful log"
words_of LogFull = codes "the log is full"
words_of TimeFalls = codes "the event is earlier than the last accepted one"
words_of MemoryTooShort = codes "the working memory is too short"
words_of EventAbsent = codes "the log has no such event"
words_of OutputTooShort = codes "the output is too short"

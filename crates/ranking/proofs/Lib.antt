-- Laws of the maker, the enquiry and the commit: the two sides of what was read, what is answered, and what the causes decide.
pub mod MakeSidesLaws
pub mod MakeAnswers
pub mod MakerCauseLaws

-- Laws of the listing.
pub mod PuttingLaws
pub mod WalkTextLaws
pub mod ListingLaws
pub mod AcceptedLaws

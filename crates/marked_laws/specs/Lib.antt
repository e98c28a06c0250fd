pub mod Laws
pub mod MailLaws
pub mod Offers
pub mod RunLaws
pub mod Versions

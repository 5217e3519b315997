pub mod OneAreas
